-- `errors::put_name` meets its contract: the string is all of the names, and each way out is one law of `Putting`.
use native.Mathlib.Omega.{arith}
use borrow.Author.Rules.{rules}
use Rattle.errors.specs.Table6.{table6, octets_of, names_in, names}
use Rattle.errors.proofs.Putting.{inside, whole, unnamed, cramped}
use Rattle.errors.proofs.put_name.Goals as goal

pub returns-then-size-eq0 : goal.returns-then-size-eq0
returns-then-size-eq0 c = unnamed (search rules) c.name-start.ensures _ c.if-size-eq0.true

pub overflow_cast-size : goal.overflow_cast-size
overflow_cast-size c = omega (arith, inside (search rules) c.name-start.ensures)

pub returns-then-out-size : goal.returns-then-out-size
returns-then-out-size c = rw c.at.ensures (cramped (search rules) c.name-start.ensures _ c.if-out-size.true)

pub overflow_add-end : goal.overflow_add-end
overflow_add-end c = omega (arith, inside (search rules) c.name-start.ensures)

pub slice_bounds-copy_from_slice-end-3 : goal.slice_bounds-copy_from_slice-end-3
slice_bounds-copy_from_slice-end-3 c = omega (arith, inside (search rules) c.name-start.ensures)

pub returns : goal.returns
unfolding table6 octets_of names_in names
returns c = whole (search rules) c.name-start.ensures _ c.if-out-size.false c.copy_from_slice.ensures.after
