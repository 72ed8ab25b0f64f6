-- The keys that a walk over the entries noted: those that the row names, of the entries so far.
-- Assumes nothing.
use Prim.Native.Nat.{ℕ, zero, suc, ◌+◌, ◌/◌, ◌%◌, ◌^◌, ◌<◌, ◌≤◌}
use mathlib.Core.Path.{◌≡◌, refl, sym, ap, ◌∙◌}
use mathlib.Core.Bool.{Bool, true, false, ◌&&◌, ◌||◌, not, and-false, or-false, or_comm, or_assoc}
use mathlib.Core.List.{List, ◌∷◌}
use lib.ListN.{length, get_or, set, replicate}
use lib.Dec.{eqb}
use borrow.Author.Tests.{eqb-true, eqb-false, ne_eqb}
use native.Mathlib.Omega.{arith}
use native.Mathlib.Numerals.{add-one}
use Rattle.operation.specs.Row.{Row, named, repeats}
use Rattle.operation.specs.Judge.{occurs}
use Rattle.operation.specs.inner.Coded.{holds, Names, item_at, items_from}
use Rattle.operation.proofs.Entries as E
use Rattle.operation.proofs.Entries.{rest, earlier, all, over, more}
use Rattle.operation.proofs.Repeats as R
use Rattle.operation.proofs.Lines.{each, self}
use Rattle.operation.proofs.Sets.{empty, one_more}

-- two items in the other order
swapped : (a b c : Bool) → ((a || b) || c) ≡ (b || (a || c))
swapped a b c = ap (λ t. t || c) (or_comm a b) ∙ or_assoc b a c

occurred : (t : List ℕ) (count k at : ℕ) → at ≤ count → (occurs k (earlier t at) || occurs k (rest t count at)) ≡ occurs k (items_from t 0 count)
unfolding earlier occurs
occurred t count k zero h = rw (all t count)
occurred t count k (suc n) h =
    let m : rest t count n ≡ item_at t n ∷ rest t count (suc n) = more t count n (omega arith) ∙ ap (λ j. item_at t n ∷ rest t count j) (add-one n) in
    swapped (eqb (item_at t n).is k) _ _ ∙ ap (λ r. occurs k (earlier t n) || occurs k r) (sym m) ∙ occurred t count k n (omega arith)

whole : (t : List ℕ) (at count k : ℕ) → at ≤ count → count ≤ at → occurs k (earlier t at) ≡ occurs k (items_from t 0 count)
unfolding occurs
whole t at count k g h =
    let e : (occurs k (earlier t at) || occurs k (rest t count at)) ≡ occurs k (earlier t at) = rw (over t count at h) (or-false _) in
    sym e ∙ occurred t count k at g

module _ (names t : List ℕ) where
  -- each key that is named is noted as it occurs among the entries before `at`
  abbrev pub Notes : (seen : List ℕ) (at : ℕ) → Type 0
  Notes seen at = (k : ℕ) → holds seen k ≡ (holds names k && occurs k (earlier t at))

  pub none_noted : Notes (replicate 13 0) 0
  unfolding earlier occurs
  none_noted k = empty k ∙ sym (and-false (holds names k))

  module _ (seen : List ℕ) (at : ℕ) (n : Notes seen at) where
    pub all_noted : {count : ℕ} → at ≤ count → count ≤ at → (row : Row) → Names row names → (k : ℕ) → holds seen k ≡ (named row k && occurs k (items_from t 0 count))
    all_noted {count} g h row m k = n k ∙ rw (m k, whole t at count k g h)

    pub occurred_before : (k : ℕ) → holds seen k ≡ true → true ≡ occurs k (earlier t at)
    occurred_before k h = sym (each (holds names k) _ (sym (n k) ∙ h)).1

    module _ {k : ℕ} (f : k ≡ (item_at t at).is) where
      -- with the entry at `at`
      step : (s : List ℕ) → ((j : ℕ) → holds s j ≡ (holds names j && (eqb k j || occurs j (earlier t at)))) → Notes s (at + 1)
      unfolding occurs
      step s g j = g j ∙ rw (E.one_more t at, ← f)

      pub unnamed : holds names k ≡ false → Notes seen (at + 1)
      unnamed h = step seen λ j. by j (eqb k j) refl
        where
          by : (j : ℕ) (t₁ : Bool) → eqb k j ≡ t₁ → holds seen j ≡ (holds names j && (t₁ || occurs j (earlier t at)))
          by j true e = n j ∙ rw (← eqb-true k j e, h)
          by j false e = n j

      pub noted_before : holds seen k ≡ true → Notes seen (at + 1)
      noted_before h = step seen λ j. by j (eqb k j) refl
        where
          by : (j : ℕ) (t₁ : Bool) → eqb k j ≡ t₁ → holds seen j ≡ (holds names j && (t₁ || occurs j (earlier t at)))
          by j true e = rw (← eqb-true k j e, (each (holds names k) _ (sym (n k) ∙ h)).0, h)
          by j false e = n j

      module _ (m : holds names k ≡ true) (h : holds seen k ≡ false) where
        pub not_before : (not (repeats k) && occurs k (earlier t at)) ≡ false
        not_before = let o : occurs k (earlier t at) ≡ false = sym (rw m) ∙ sym (n k) ∙ h in R.not_before k _ o

        pub noted_now : k / 64 < length seen → Notes (set seen (k / 64) (get_or seen (k / 64) 0 + 2 ^ (k % 64))) (at + 1)
        noted_now l = step (set seen (k / 64) (get_or seen (k / 64) 0 + 2 ^ (k % 64))) λ j. one_more seen k h l j ∙ by j (eqb k j) refl
          where
            by : (j : ℕ) (t₁ : Bool) → eqb k j ≡ t₁ → (eqb j k || holds seen j) ≡ (holds names j && (t₁ || occurs j (earlier t at)))
            by j true e = rw (← eqb-true k j e, self k, m)
            by j false e = rw (ne_eqb j k (λ g. eqb-false k j e (sym g))) (n j)
