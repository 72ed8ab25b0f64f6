-- `component::put_few` meets its contract.
use Prim.Native.Nat.{◌+◌, ◌≤◌}
use native.Mathlib.Numerals.{add-one, add-two, add-three}
use mathlib.Core.Path.{◌≡◌}
use mathlib.Core.List.{[], ◌∷◌}
use lib.ListN.{length, length-set}
use native.Mathlib.Omega.{arith}
use Rattle.component.proofs.Composition.{few, few_size}
use Rattle.component.proofs.Putting.{stored}
use Rattle.component.proofs.composing.put_few.Goals as goal
use Rattle.component.proofs.composing.put_few.Lts as lts
use Rattle.component.proofs.composing.put_few.Reads as reads

room : (c : lts.Start reads.Pre reads.Post) → c.args.at + (c.args.count + 2) ≤ length c.args.out.now
room c = omega (arith, few_size c.args.octet c.args.count c.args.first c.args.second c.requires.0)

pub bounds-out-at : goal.bounds-out-at
bounds-out-at c = omega (arith, room c)

pub bounds-out-at-2 : goal.bounds-out-at-2
bounds-out-at-2 c = simp length-set (omega (arith, room c))

pub returns-then-count-eq0 : goal.returns-then-count-eq0
returns-then-count-eq0 c = rw (few _ _ _ _ c.requires.0, c.if-count-eq0.true, add-one) (stored (_ ∷ _ ∷ []) _ _ (omega (arith, room c.before)))

pub bounds-out-at-3 : goal.bounds-out-at-3
bounds-out-at-3 c = simp length-set (omega (arith, room c.before))

pub returns-then-count-eq1 : goal.returns-then-count-eq1
returns-then-count-eq1 c = rw (few _ _ _ _ c.requires.0, c.if-count-eq1.true, add-one, add-two) (stored (_ ∷ _ ∷ _ ∷ []) _ _ (omega (arith, room c.before.before)))

pub bounds-out-at-4 : goal.bounds-out-at-4
bounds-out-at-4 c = simp length-set (omega (arith, room c.before.before))

pub returns : goal.returns
returns c =
    let e : c.args.count ≡ 2 = omega arith in
    rw (few _ _ _ _ c.requires.0, e, add-one, add-two, add-three) (stored (_ ∷ _ ∷ _ ∷ _ ∷ []) _ _ (omega (arith, room c.before.before)))
