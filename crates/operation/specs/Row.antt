-- A row of the paper, and what it sees of a run of parameters. Nothing here knows which rows there are.
use Rattle.std.specs.Prelude.{ℕ, ◌+◌, ◌*◌, ◌/◌, Bool, true, false, ◌||◌, List, [], ◌∷◌, eqb}

-- an identifier as one key: its number twice, and one more where it is a constructor
unfoldable pub key : (number form : ℕ) → ℕ
key number form = number * 2 + form

unfoldable pub number_of : ℕ → ℕ
number_of k = k / 2

pub data Line : Type 0 where
  must : ℕ → Line
  -- a choice: one of the two, and not both
  one_of : ℕ → ℕ → Line
  -- a group: at least one of its members, the first and the others
  any_of : ℕ → List ℕ → Line
  may : ℕ → Line

abbrev pub Row : Type 0
Row = List Line

unfoldable pub members : Line → List ℕ
members (must j) = j ∷ []
members (one_of i j) = i ∷ j ∷ []
members (any_of i js) = i ∷ js
members (may j) = j ∷ []

unfoldable pub some_of : (ℕ → Bool) → List ℕ → Bool
some_of p [] = false
some_of p (k ∷ ks) = p k || some_of p ks

unfoldable pub among : List ℕ → ℕ → Bool
among ks k = some_of (eqb k) ks

unfoldable pub on_line : Line → ℕ → Bool
on_line l k = among (members l) k

-- the number by which 13 asks for a line: its first member's
unfoldable pub asks : Line → ℕ
asks (must j) = number_of j
asks (one_of i j) = number_of i
asks (any_of i js) = number_of i
asks (may j) = number_of j

unfoldable pub named : Row → ℕ → Bool
named [] k = false
named (l ∷ ls) k = on_line l k || named ls k

-- 13 asks in row order, and for a group behind the others: no line behind it asks for anything
unfoldable pub asks_nothing : Row → Bool
asks_nothing [] = true
asks_nothing (must j ∷ ls) = false
asks_nothing (one_of i j ∷ ls) = false
asks_nothing (any_of i js ∷ ls) = false
asks_nothing (may j ∷ ls) = asks_nothing ls

unfoldable pub group_last : Row → Bool
group_last [] = true
group_last (must j ∷ ls) = group_last ls
group_last (one_of i j ∷ ls) = group_last ls
group_last (any_of i js ∷ ls) = asks_nothing ls
group_last (may j ∷ ls) = group_last ls

-- Digits alone may repeat
unfoldable pub repeats : ℕ → Bool
repeats k = eqb k (key 4 0)

-- contents of so many octets are one of the sizes that are fixed; where none is fixed they are of any
unfoldable pub allows : (sizes : List ℕ) (size : ℕ) → Bool
allows [] n = true
allows (m ∷ ms) n = among (m ∷ ms) n

-- what a row judges: a key, the size of the contents in octets, and the mark by which a refusal points to it, a place
-- to the reader and an entry to the writer
pub record Item : Type 0 where
  pub is : ℕ
  pub size : ℕ
  pub mark : ℕ
