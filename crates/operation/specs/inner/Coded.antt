-- How the code holds a row and a run of parameters: the keys that a row names as a set, those that must occur as a
-- list, the parameters as a table of entries.
use Rattle.std.specs.Prelude.{ℕ, zero, suc, ◌+◌, ◌*◌, ◌/◌, ◌%◌, ◌^◌, ◌<◌, ◌≡◌, Bool, true, false, ◌&&◌, ◌||◌}
use Rattle.std.specs.Prelude.{not, List, [], ◌∷◌, ◌++◌, length, get_or, leb, eqb, ltb, Result, Ok, Err}
use Rattle.element.specs.Octets.{if}
use Rattle.element.specs.Answer.{Answer, accepted, ◌>>=◌, ◌>>◌, refused}
use Rattle.component.specs.Table.{width, held}
use Rattle.operation.specs.Judge.{judge, count_named}
use Rattle.operation.specs.declared.engine.RowFault as F
use Rattle.operation.specs.declared.engine.RowFault.TheVariants as FV
use Rattle.operation.specs.Row.{Row, must, one_of, any_of, may, Item, key, members, among, named, group_last, allows}
use Rattle.operation.specs.Rows.{sizes}
use Rattle.operation.specs.Finding.{row_of}

-- ---- what a row names, as a set of keys: one bit for each, 64 to a word; a key beyond the words is not in it
unfoldable pub bit : (word b : ℕ) → Bool
bit w b = eqb (w / 2 ^ b % 2) 1

unfoldable pub holds : (set : List ℕ) → ℕ → Bool
holds set k = bit (get_or set (k / 64) 0) (k % 64)

abbrev pub Names : Row → (set : List ℕ) → Type 0
Names row set = (k : ℕ) → holds set k ≡ named row k

unfoldable pub keys_in : Row → List ℕ
keys_in [] = []
keys_in (l ∷ ls) = members l ++ keys_in ls

unfoldable pub word_of : List ℕ → (i : ℕ) → ℕ
word_of [] i = 0
word_of (k ∷ ks) i = if (eqb (k / 64) i) (2 ^ (k % 64)) 0 + word_of ks i

unfoldable pub words_from : List ℕ → (i n : ℕ) → List ℕ
words_from ks i zero = []
words_from ks i (suc n) = word_of ks i ∷ words_from ks (i + 1) n

-- the first `n` words of a row
unfoldable pub words_of : Row → (n : ℕ) → List ℕ
words_of row n = words_from (keys_in row) 0 n

-- no key twice, and none beyond `n` words: else the sums are not the row's
unfoldable pub apart : (n : ℕ) → List ℕ → Bool
apart n [] = true
apart n (k ∷ ks) = (ltb (k / 64) n && not (among ks k)) && apart n ks

-- ---- what it asks for, in its order: of a choice the first key, and the other will do; no choice is of one key twice
unfoldable pub must_of : Row → List ℕ
must_of [] = []
must_of (must j ∷ ls) = j ∷ must_of ls
must_of (one_of i j ∷ ls) = i ∷ must_of ls
must_of (any_of i js ∷ ls) = must_of ls
must_of (may j ∷ ls) = must_of ls

-- the members of its group; none: of no group
unfoldable pub group_of : Row → List ℕ
group_of [] = []
group_of (must j ∷ ls) = group_of ls
group_of (one_of i j ∷ ls) = group_of ls
group_of (any_of i js ∷ ls) = i ∷ js
group_of (may j ∷ ls) = group_of ls

-- each choice is between these two, and where they are two no other line asks for the first
unfoldable pub between : (one other : ℕ) → Row → Bool
between one other [] = true
between one other (must j ∷ ls) = (eqb one other || not (eqb j one)) && between one other ls
between one other (one_of i j ∷ ls) = (not (eqb one other) && (eqb i one && eqb j other)) && between one other ls
between one other (any_of i js ∷ ls) = between one other ls
between one other (may j ∷ ls) = between one other ls

unfoldable pub choice : Row → Bool
choice [] = false
choice (must j ∷ ls) = choice ls
choice (one_of i j ∷ ls) = true
choice (any_of i js ∷ ls) = choice ls
choice (may j ∷ ls) = choice ls

pub record Asks (row : Row) (list group : List ℕ) (one other : ℕ) : Type 0 where
  pub listed : list ≡ must_of row
  pub grouped : group ≡ group_of row
  pub last : group_last row ≡ true
  pub chosen : between one other row ≡ true
  pub two : (eqb one other || choice row) ≡ true

-- what `n` words, a group and a choice must be to say what the row does
unfoldable pub sound : Row → (n one other : ℕ) → Bool
sound row n one other =
    apart n (keys_in row) && (group_last row && (between one other row && (eqb one other || choice row)))

-- ---- the keys of a word that have a size, and not this one
abbrev pub Missizes : (word size : ℕ) → Type 0
Missizes w size = (k : ℕ) → k < 64 → bit w k ≡ not (allows (sizes k) size)

-- ---- a run of parameters
-- the item of entry `i`, marked by `i`
unfoldable pub item_at : (table : List ℕ) (i : ℕ) → Item
item_at t i = record { is = key (held t i).number (held t i).form; size = (held t i).size; mark = i }

-- `count` entries from `i` on
unfoldable pub items_from : (table : List ℕ) (i count : ℕ) → List Item
items_from t i zero = []
items_from t i (suc n) = item_at t i ∷ items_from t (i + 1) n

-- what a row says of a run: how many it names, where all fits
unfoldable pub judgement : Row → List Item → Answer ℕ
judgement row xs = do
  judge row xs
  accepted (count_named row xs)

-- what the row of an operation says of it; none: 11
unfoldable pub verdict : (kind specifier : ℕ) → List Item → Answer ℕ
verdict kind specifier xs = do
  row ← row_of kind specifier 0
  judgement row xs

-- a number that is none of these
abbrev pub NoneOf : ℕ → List ℕ → Type 0
NoneOf n [] = Unit
NoneOf n (k ∷ ks) = NoneOf n ks × (n ≡ k → ⊥)

-- what each fault says
abbrev pub fault_in : F.RowFault → Answer ℕ
fault_in FV.NoRow = refused 11 0
fault_in (FV.Again entry) = refused 12 entry
fault_in (FV.WrongSize entry) = refused 26 entry
fault_in (FV.Missing number) = refused 13 number
fault_in (FV.Both entry) = refused 14 entry

-- what the engine's answer says
abbrev pub judged_in : Result ℕ F.RowFault → Answer ℕ
judged_in (Ok named) = accepted named
judged_in (Err fault) = fault_in fault

-- what the engine's answer must be, at any row that asks for what the lists hold and names what the set does
pub record Judges (r : Result ℕ F.RowFault) (list group : List ℕ) (one other : ℕ) (names : List ℕ) (xs : List Item)
    : Type 0 where
  pub judged : (row : Row) → Asks row list group one other → Names row names → judged_in r ≡ judgement row xs

-- what the row says of the entries of a table, where the table has room for them
unfoldable pub said : (kind specifier count : ℕ) (table : List ℕ) → Answer ℕ
said kind specifier count table =
    if (leb count 64 && leb (width * count) (length table)) (verdict kind specifier (items_from table 0 count))
    (accepted 0)
