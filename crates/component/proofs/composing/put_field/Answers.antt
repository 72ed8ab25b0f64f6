-- `component::put_field` meets its contract.
use native.Mathlib.Omega.{arith}
use native.Mathlib.Numerals.{add-one, add-two}
use mathlib.Core.Path.{◌≡◌}
use mathlib.Core.List.{[], ◌∷◌}
use lib.ListN.{length-set}
use Rattle.element.specs.Encoded.{octets_in}
use Rattle.component.proofs.Putting.{stored}
use Rattle.component.proofs.composing.put_field.Goals as goal

pub returns-then-size-eq1 : goal.returns-then-size-eq1
unfolding octets_in
returns-then-size-eq1 c = rw c.if-size-eq1.true (stored (_ ∷ []) _ _ (omega arith))

pub bounds-out-at-2 : goal.bounds-out-at-2
bounds-out-at-2 c = simp length-set (omega arith)

pub returns-then-size-eq2 : goal.returns-then-size-eq2
unfolding octets_in
returns-then-size-eq2 c = rw (c.if-size-eq2.true, add-one) (stored (_ ∷ _ ∷ []) _ _ (omega arith))

pub bounds-out-at-3 : goal.bounds-out-at-3
bounds-out-at-3 c = simp length-set (omega arith)

pub returns : goal.returns
unfolding octets_in
returns c = let three : c.args.field.size ≡ 3 = omega arith in rw (three, add-one, add-two) (stored (_ ∷ _ ∷ _ ∷ []) _ _ (omega arith))
