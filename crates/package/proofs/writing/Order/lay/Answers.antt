-- `package::Order::lay` meets its contract.
use native.Mathlib.Omega.{arith}
use Rattle.element.proofs.LengthLaws.{small}
use Rattle.package.proofs.Laying.{short, sized, too_long, no_room, laid}
use Rattle.package.proofs.writing.Order.lay.Goals as goal

pub returns-then-whole-gt4096 : goal.returns-then-whole-gt4096
returns-then-whole-gt4096 c = rw c.at.ensures (too_long _ _ _ _ _ _ _ c.requires.1 (sized (short c.args.self.now) c.requires.0 c.length_size.ensures c.length_size-2.ensures) c.if-whole-gt4096.true)

pub returns-then-out-whole : goal.returns-then-out-whole
returns-then-out-whole c = rw c.at-then-out-whole.ensures (no_room _ _ _ _ _ _ _ c.requires.1 (sized (short c.args.self.now) c.requires.0 c.length_size.ensures c.length_size-2.ensures) c.if-whole-gt4096.false c.if-out-whole.true)

pub put-requires : goal.put-requires
put-requires c =
    let h = c.requires in
    let z = sized (short c.args.self.now) c.requires.0 c.length_size.ensures c.length_size-2.ensures in
    (h.1, z.contents, z.small, omega (arith, z.all), h.2)

pub returns : goal.returns
returns c =
    laid _ _ _ _ _ _ _ c.requires.1 (sized (short c.args.self.now) c.requires.0 c.length_size.ensures c.length_size-2.ensures) c.if-whole-gt4096.false c.if-out-whole.false
    c.put.ensures

pub overflow_add-body-2 : goal.overflow_add-body-2
overflow_add-body-2 c = omega (arith, small _ c.length_size.ensures)

pub overflow_add-body-3 : goal.overflow_add-body-3
overflow_add-body-3 c = omega (arith, small _ c.length_size.ensures)

pub overflow_add-whole : goal.overflow_add-whole
overflow_add-whole c = omega (arith, small _ c.length_size-2.ensures)

pub overflow_add-whole-2 : goal.overflow_add-whole-2
overflow_add-whole-2 c = omega (arith, small _ c.length_size.ensures, small _ c.length_size-2.ensures)

pub overflow_cast-whole : goal.overflow_cast-whole
overflow_cast-whole c = omega (arith, short c.args.self.now, small _ c.length_size.ensures, small _ c.length_size-2.ensures)
