-- The faults of a run of parameters against a row, in the book's words: over any row, and any marks to point by.
use Rattle.std.specs.Prelude.{ℕ, ◌≤◌, ◌≡◌, true, false, List, ◌∷◌, ◌++◌}
use Rattle.operation.specs.Row.{Row, Line, must, one_of, any_of, may, asks, Item, on_line, named, repeats, allows}
use Rattle.operation.specs.Rows.{sizes}
use Rattle.operation.specs.Book.{keys_of, times, Each, Once, Sized}

-- ---- the first and the last of a list of which `P` holds
pub data First {A : Type 0} (P : A → Type 0) : List A → A → Type 0 where
  here : {x : A} {xs : List A} → P x → First P (x ∷ xs) x
  later : {x y : A} {xs : List A} → (P y → ⊥) → First P xs x → First P (y ∷ xs) x

pub data Last {A : Type 0} (P : A → Type 0) : List A → A → Type 0 where
  here : {x : A} {xs : List A} → P x → Each (λ y. P y → ⊥) xs → Last P (x ∷ xs) x
  later : {x y : A} {xs : List A} → Last P xs x → Last P (y ∷ xs) x

-- ---- what a row asks of the keys of a run
-- nothing meets the line
abbrev pub Unmet : List ℕ → Line → Type 0
Unmet ks (must j) = times j ks ≡ 0
Unmet ks (one_of i j) = (times i ks ≡ 0) × (times j ks ≡ 0)
Unmet ks (any_of i js) = Each (λ j. times j ks ≡ 0) (i ∷ js)
Unmet ks (may j) = ⊥

-- both members of a choice occur
abbrev pub Doubled : List ℕ → Line → Type 0
Doubled ks (must j) = ⊥
Doubled ks (one_of i j) = (1 ≤ times i ks) × (1 ≤ times j ks)
Doubled ks (any_of i js) = ⊥
Doubled ks (may j) = ⊥

-- the row names it, and it may not have its size
abbrev pub Missized : Row → Item → Type 0
Missized row x = (named row x.is ≡ true) × (allows (sizes x.is) x.size ≡ false)

pub data RowFault (row : Row) (xs : List Item) : (number detail : ℕ) → Type 0 where
  -- 12: the earliest second; what stands before it has none
  again : (before : List Item) (x : Item) (behind : List Item) → xs ≡ before ++ (x ∷ behind) → Once row (keys_of before)
      → named row x.is ≡ true → repeats x.is ≡ false → 1 ≤ times x.is (keys_of before) →
      RowFault row xs 12 x.mark
  -- 26: no second, and the earliest of a wrong size
  missized : {x : Item} → Once row (keys_of xs) → First (Missized row) xs x → RowFault row xs 26 x.mark
  -- 13: neither, and the first line in row order that nothing meets
  missing : {l : Line} → Once row (keys_of xs) → Each (Sized row) xs → First (Unmet (keys_of xs)) row l →
      RowFault row xs 13 (asks l)
  -- 14: none of these, and of a choice with both members the later
  both : {l : Line} {x : Item} → Once row (keys_of xs) → Each (Sized row) xs →
      Each (λ l. Unmet (keys_of xs) l → ⊥) row → First (Doubled (keys_of xs)) row l
      → Last (λ y. on_line l y.is ≡ true) xs x → RowFault row xs 14 x.mark
