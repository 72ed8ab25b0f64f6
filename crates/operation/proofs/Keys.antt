-- What a row sees of a run is what it sees of the parameters that it shows, but for the marks, which decide neither its verdict nor its counts.
use Prim.Native.Nat.{ℕ}
use mathlib.Core.Path.{◌≡◌, refl, sym, ap, ◌∙◌}
use mathlib.Core.Bool.{Bool, true, false, not}
use mathlib.Core.List.{List, [], ◌∷◌, map}
use mathlib.Core.Logic.{◌↔◌}
use Rattle.element.specs.Octets.{Octets, if}
use Rattle.element.specs.Answer.{Answer, accepted, refused}
use Rattle.component.specs.Table.{Entry}
use Rattle.component.specs.Grammar.{Parameter}
use Rattle.component.specs.Standing.{Shows, Pairwise, none, more}
use Rattle.operation.specs.Row.{Row, Item, named}
use Rattle.operation.specs.Judge.{judge, count_named, pointed}
use Rattle.operation.specs.Book.{keys_of, Fits}
use Rattle.operation.specs.Items.{item_of, items_of}
use Rattle.operation.specs.Reading.{count_other}
use Rattle.operation.specs.Demands.{key_of, tally, place_in}
use Rattle.operation.proofs.RowFaults.{exact}
use Rattle.operation.proofs.Marked.{judged, items}

keys_read : {s : Octets} {es : List Entry} {ps : List Parameter} → Pairwise (Shows s) es ps → keys_of (map item_of es) ≡ map key_of ps
unfolding item_of
keys_read none = refl
keys_read (more h r) = rw (h.number, h.form, keys_read r)

turned : {A : Type 0} (t : Bool) (a b : A) → if t a b ≡ if (not t) b a
turned true a b = refl
turned false a b = refl

unpointed : (f : ℕ → ℕ) (a : Answer Unit) → pointed f a ≡ accepted tt → a ≡ accepted tt
unfolding pointed
unpointed f (accepted x) e = refl
unpointed f (refused n d) e = cc

module _ (row : Row) where
  tallied : (xs : List Item) → (count_named row xs ≡ tally (named row) (keys_of xs)) × (count_other row xs ≡ tally (λ k. not (named row k)) (keys_of xs))
  unfolding count_named count_other tally
  tallied [] = (refl, refl)
  tallied (x ∷ xs) = let (a, b) = tallied xs in (rw a, rw b (turned (named row x.is) _ _))

  module _ {s : Octets} {es : List Entry} {ps : List Parameter} (h : Pairwise (Shows s) es ps) where
    pub counts_read : (count_named row (map item_of es) ≡ tally (named row) (map key_of ps)) × (count_other row (map item_of es) ≡ tally (λ k. not (named row k)) (map key_of ps))
    counts_read = rw (keys_read h) at (tallied (map item_of es))

    pub fits_read : (judge row (map item_of es) ≡ accepted tt) ↔ Fits row (items_of 0 ps)
    unfolding pointed
    fits_read =
        let e : judge row (map item_of es) ≡ pointed (place_in es) (judge row (items_of 0 ps)) = rw (items h).0 (judged row (place_in es) ps) in
        let (to, from) = exact row (items_of 0 ps) in
        (λ j. to (unpointed (place_in es) _ (sym e ∙ j)), λ f. e ∙ ap (pointed (place_in es)) (from f))
