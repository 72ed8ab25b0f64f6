-- The parameter table of an operation as the book words it: how often each identifier occurs, and of which size, with
-- no order of checks.
use Rattle.std.specs.Prelude.{ℕ, ◌+◌, ◌≤◌, ◌≡◌, true, false, eqb}
use mathlib.Core.List.{List, [], ◌∷◌, map, Memᴰ}
use Rattle.element.specs.Octets.{if}
use Rattle.operation.specs.Row.{Row, Line, must, one_of, any_of, may, named, repeats, allows, Item}
use Rattle.operation.specs.Rows.{sizes}

abbrev pub keys_of : List Item → List ℕ
keys_of = map λ x. x.is

unfoldable pub times : ℕ → List ℕ → ℕ
times k [] = 0
times k (j ∷ js) = if (eqb j k) (1 + times k js) (times k js)

pub data Kept (ks : List ℕ) : Line → Type 0 where
  occurred : (j : ℕ) → 1 ≤ times j ks → Kept ks (must j)
  first : (i j : ℕ) → 1 ≤ times i ks → times j ks ≡ 0 → Kept ks (one_of i j)
  second : (i j : ℕ) → times i ks ≡ 0 → 1 ≤ times j ks → Kept ks (one_of i j)
  -- several of a group may occur
  any : (i : ℕ) (js : List ℕ) (j : ℕ) → Memᴰ j (i ∷ js) → 1 ≤ times j ks → Kept ks (any_of i js)
  allowed : (j : ℕ) → Kept ks (may j)

pub data Each {A : Type 0} (P : A → Type 0) : List A → Type 0 where
  none : Each P []
  more : {x : A} {xs : List A} → P x → Each P xs → Each P (x ∷ xs)

-- what the row names and may occur once does
abbrev pub Once : Row → List ℕ → Type 0
Once row ks = (k : ℕ) → named row k ≡ true → repeats k ≡ false → times k ks ≤ 1

-- what the row names has a size that it may have
abbrev pub Sized : Row → Item → Type 0
Sized row x = named row x.is ≡ true → allows (sizes x.is) x.size ≡ true

pub record Fits (row : Row) (xs : List Item) : Type 0 where
  pub kept : Each (Kept (keys_of xs)) row
  pub once : Once row (keys_of xs)
  pub sized : Each (Sized row) xs
