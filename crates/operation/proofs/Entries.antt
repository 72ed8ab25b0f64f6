-- The entries of a table that are left from one on, and those before it: how each search over them begins, goes on and ends.
-- Assumes nothing.
use Prim.Native.Nat.{ℕ, zero, suc, ◌+◌, ◌-◌, ◌<◌, ◌≤◌}
use mathlib.Core.Path.{◌≡◌, refl, sym, ◌∙◌}
use mathlib.Core.Bool.{Bool, true, false, ◌||◌, or-true}
use mathlib.Core.List.{List, [], ◌∷◌}
use lib.Dec.{eqb}
use borrow.Author.Tests.{eq-eqb, ne_eqb}
use native.Mathlib.Decide.{dec_lt}
use native.Mathlib.Omega.{arith}
use native.Mathlib.Nat.{sub-zero}
use native.Mathlib.Numerals.{add-one}
use Rattle.element.specs.Octets.{if}
use Rattle.operation.specs.Row.{Line, one_of, Item, members, some_of, among, on_line}
use Rattle.operation.specs.Judge.{occurs, last_mark}
use Rattle.operation.specs.inner.Coded.{item_at, items_from}

-- of `count` entries those from `at` on
abbrev pub rest : (table : List ℕ) (count at : ℕ) → List Item
rest t count at = items_from t at (count - at)

-- the entries before `at`, the last of them first
unfoldable pub earlier : (table : List ℕ) (at : ℕ) → List Item
earlier t zero = []
earlier t (suc n) = item_at t n ∷ earlier t n

module _ (t : List ℕ) (count : ℕ) where
  pub all : items_from t 0 count ≡ rest t count 0
  all = rw sub-zero

  pub over : (at : ℕ) → count ≤ at → rest t count at ≡ []
  unfolding items_from
  over at h = let z : count - at ≡ 0 = omega arith in rw z

  pub more : (at : ℕ) → at < count → rest t count at ≡ item_at t at ∷ rest t count (at + 1)
  unfolding items_from
  more at h = let s : count - at ≡ suc (count - (at + 1)) = omega arith in rw s

module _ (t : List ℕ) where
  pub one_more : (at : ℕ) → earlier t (at + 1) ≡ item_at t at ∷ earlier t at
  unfolding earlier
  one_more at = rw add-one

  -- the first entry with the key of the entry at `at` is that one, or an earlier one
  module _ {first at j k : ℕ} (f : j ≡ (item_at t first).is) where
    pub not_yet : k ≡ (item_at t at).is → (j ≡ k → ⊥) → first ≤ at → first < at
    not_yet g n h = go (dec_lt first at)
      where
        go : Dec (first < at) → first < at
        go (yes l) = l
        go (no l) = let e : first ≡ at = omega arith in absurd (n (f ∙ rw e (sym g)))

  pub none_before : (k : ℕ) → occurs k (earlier t 0) ≡ false
  unfolding earlier occurs
  none_before k = refl

  pub before : (at : ℕ) {first k : ℕ} → first < at → k ≡ (item_at t first).is → true ≡ occurs k (earlier t at)
  unfolding earlier occurs
  before zero h e = absurd (omega arith)
  before (suc n) {first} {k} h e = go (dec_lt first n) λ l. before n l e
    where
      go : Dec (first < n) → (first < n → true ≡ occurs k (earlier t n)) → true ≡ (eqb (item_at t n).is k || occurs k (earlier t n))
      go (yes l) later = rw (← later l) (sym (or-true (eqb (item_at t n).is k)))
      go (no l) later = let q : first ≡ n = omega arith in rw (eq-eqb (item_at t n).is k (sym (rw q at e)))

-- whether a key occurs in `x` or in the items behind it
module _ {x : Item} {xs ys : List Item} (e : xs ≡ x ∷ ys) {j k : ℕ} (f : j ≡ x.is) where
  pub passed : (j ≡ k → ⊥) → occurs k ys ≡ occurs k xs
  unfolding occurs
  passed h = rw e (simp (← f, ne_eqb j k h))

-- which keys a choice names
module _ (i j k : ℕ) where
  pub is_one : k ≡ i → true ≡ on_line (one_of i j) k
  unfolding on_line members some_of among
  is_one e = rw (eq-eqb k i e)

  module _ (n : k ≡ i → ⊥) where
    pub is_other : k ≡ j → true ≡ on_line (one_of i j) k
    unfolding on_line members some_of among
    is_other e = rw (ne_eqb k i n, eq-eqb k j e)

    pub is_neither : (k ≡ j → ⊥) → false ≡ on_line (one_of i j) k
    unfolding on_line members some_of among
    is_neither m = rw (ne_eqb k i n, ne_eqb k j m)

-- the last entry that a line names, where it was `m` among those before `at`
module _ (t : List ℕ) (count at : ℕ) (l : Line) (m : ℕ) where
  pub last_known : count ≤ at → m ≡ last_mark l m (rest t count at)
  unfolding last_mark
  last_known h = rw over

  module _ (h : at < count) {j : ℕ} (f : j ≡ (item_at t at).is) {r : Bool} (g : r ≡ on_line l j) where
    goes_on : {i : ℕ} → if r at m ≡ i → last_mark l i (rest t count (at + 1)) ≡ last_mark l m (rest t count at)
    unfolding last_mark item_at
    goes_on e = rw (more t count at h, ← e, g, f)

    pub last_here : r ≡ true → last_mark l at (rest t count (at + 1)) ≡ last_mark l m (rest t count at)
    last_here e = goes_on (rw e)

    pub last_other : r ≡ false → last_mark l m (rest t count (at + 1)) ≡ last_mark l m (rest t count at)
    last_other e = goes_on (rw e)
