-- `component::element_size` meets its contract.
use Rattle.element.proofs.LengthLaws as Length
use Rattle.component.proofs.Sizing.{element_size_lem}
use native.Mathlib.Omega.{arith}
use Rattle.component.proofs.composing.element_size.Goals as goal

pub overflow_add-result : goal.overflow_add-result
overflow_add-result c = omega (arith, Length.small _ c.length_size.ensures)

pub overflow_add-result-2 : goal.overflow_add-result-2
overflow_add-result-2 c = omega (arith, Length.small _ c.length_size.ensures)

pub returns : goal.returns
returns c = (rw c.length_size.ensures (element_size_lem _ _), omega (arith, Length.small _ c.length_size.ensures))
