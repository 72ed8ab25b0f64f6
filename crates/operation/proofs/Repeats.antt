-- The walk over the entries for 12 and 26 against the definitions: what is left of it, and its laws.
-- Assumes nothing.
use Prim.Native.Nat.{ℕ, ◌+◌, ◌<◌, ◌≤◌}
use mathlib.Core.Path.{◌≡◌, sym, ◌∙◌}
use mathlib.Core.Bool.{true, false, ◌&&◌, ◌||◌, not, and-false}
use mathlib.Core.List.{List, []}
use borrow.Author.Tests.{eq-eqb, ne_eqb}
use native.Mathlib.Omega.{arith}
use native.Mathlib.Nat.{zero-add}
use Rattle.element.specs.Octets.{if}
use Rattle.element.specs.Answer.{accepted, refused}
use Rattle.operation.specs.Row.{Row, Item, named, repeats, key, allows}
use Rattle.operation.specs.Rows.{sizes, sizes_in, fixed}
use Rattle.operation.specs.Judge.{occurs, once, sized, count_named}
use Rattle.operation.specs.inner.Coded.{item_at, items_from}
use Rattle.operation.proofs.Entries.{rest, earlier, all, over, more, one_more}

pub not_digits : (k : ℕ) → (k ≡ 8 → ⊥) → repeats k ≡ false
unfolding repeats key
not_digits k h = ne_eqb k 8 h

-- nothing stands against a key that may repeat, or that did not occur
pub digits : (k : ℕ) (seen : List Item) → k ≡ 8 → (not (repeats k) && occurs k seen) ≡ false
unfolding repeats key
digits k seen h = simp (eq-eqb k 8 h)

pub not_before : (k : ℕ) (seen : List Item) → occurs k seen ≡ false → (not (repeats k) && occurs k seen) ≡ false
not_before k seen e = rw e (and-false (not (repeats k)))

-- and it has no size
pub digits_of_any_size : (k n : ℕ) → k ≡ 8 → allows (sizes k) n ≡ true
unfolding sizes sizes_in fixed key allows
digits_of_any_size k n h = rw h

module _ (row : Row) (t : List ℕ) (count : ℕ) where
  -- what 12 says from `at` on
  abbrev pub Again : (at : ℕ) → Type 0
  Again at = once row [] (items_from t 0 count) ≡ once row (earlier t at) (rest t count at)

  -- and 26, and how many are named, with `n` of the entries before it
  pub record Left (n at : ℕ) : Type 0 where
    pub again : Again at
    pub right : sized row (items_from t 0 count) ≡ sized row (rest t count at)
    pub many : count_named row (items_from t 0 count) ≡ n + count_named row (rest t count at)

  pub begins : Left 0 0
  unfolding earlier
  begins = record { again = rw (all t count); right = rw (all t count); many = rw (all t count) (sym (zero-add _)) }

  module _ (at : ℕ) where
    pub none_again : count ≤ at → once row (earlier t at) (rest t count at) ≡ accepted tt
    unfolding once
    none_again h = rw (over t count at h)

    pub all_right : count ≤ at → sized row (rest t count at) ≡ accepted tt
    unfolding sized
    all_right h = rw (over t count at h)

    pub none_left : count ≤ at → count_named row (rest t count at) ≡ 0
    unfolding count_named
    none_left h = rw (over t count at h)

    module _ (h : at < count) {k : ℕ} (f : k ≡ (item_at t at).is) where
      pub not_again : Again at → (named row k && (not (repeats k) && occurs k (earlier t at))) ≡ false → Again (at + 1)
      unfolding once
      not_again l o = l ∙ rw (more t count at h, one_more t at) (simp (← f, o))

      pub again : Again at → true ≡ named row k → repeats k ≡ false → true ≡ occurs k (earlier t at) → once row [] (items_from t 0 count) ≡ refused 12 at
      unfolding once item_at
      again l e d o = l ∙ rw (more t count at h) (simp (← f, ← e, d, ← o))

      pub refused_then : Again at → true ≡ named row k → repeats k ≡ false → true ≡ occurs k (earlier t at) → once row [] (items_from t 0 count) ≡ accepted tt → ⊥
      refused_then l e d o p = let q = again l e d o in let z : ◌≡◌ {A = ℕ} 0 1 = cc in omega arith

      module _ {n : ℕ} (l : Left n at) where
        goes_on : {m : ℕ} → (named row k && (not (repeats k) && occurs k (earlier t at))) ≡ false →
            (not (named row k) || allows (sizes k) (item_at t at).size) ≡ true → n + if (named row k) (1 + count_named row (rest t count (at + 1))) (count_named row (rest t count (at + 1))) ≡ m + count_named row (rest t count (at + 1)) →
            Left m (at + 1)
        unfolding sized count_named
        goes_on o s c =
            record {
              again = not_again l.again o;
              right = l.right ∙ rw (more t count at h) (simp (← f, s));
              many = l.many ∙ rw (more t count at h) (simp (← f) c);
            }

        pub unnamed : false ≡ named row k → Left n (at + 1)
        unnamed e = goes_on (rw (← e)) (rw (← e)) (rw (← e))

        module _ (e : true ≡ named row k) where
          pub fits : (not (repeats k) && occurs k (earlier t at)) ≡ false → allows (sizes k) (item_at t at).size ≡ true → Left (n + 1) (at + 1)
          fits o s = goes_on (rw (← e) o) (rw (← e) s) (rw (← e) (omega arith))

          pub wrong : allows (sizes k) (item_at t at).size ≡ false → sized row (items_from t 0 count) ≡ refused 26 at
          unfolding sized item_at
          wrong s = l.right ∙ rw (more t count at h) (simp (← f, ← e, s))
