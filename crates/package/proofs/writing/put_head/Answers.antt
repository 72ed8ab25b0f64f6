-- `package::put_head` meets its contract.
use lib.ListN.{length-set}
use native.Mathlib.Omega.{arith}
use Rattle.package.proofs.Fronting.{field_room, headed}
use Rattle.package.proofs.writing.put_head.Goals as goal

pub bounds-out-1 : goal.bounds-out-1
bounds-out-1 c = simp length-set (omega (arith, field_room c.requires c.length_field-field.ensures))

pub returns-then-size-eq1 : goal.returns-then-size-eq1
returns-then-size-eq1 c = headed c.requires c.length_field-field.ensures c.if-size-eq1.true

pub bounds-out-2 : goal.bounds-out-2
bounds-out-2 c = simp length-set (omega (arith, field_room c.requires c.length_field-field.ensures))

pub returns-then-size-eq2 : goal.returns-then-size-eq2
returns-then-size-eq2 c = headed c.requires c.length_field-field.ensures c.if-size-eq2.true

pub bounds-out-3 : goal.bounds-out-3
bounds-out-3 c = simp length-set (omega (arith, field_room c.requires c.length_field-field.ensures))

pub returns : goal.returns
returns c =
    let h = c.requires in
    let e = c.length_field-field.ensures in
    headed {size = 3} h e (omega (arith, field_room h e))
