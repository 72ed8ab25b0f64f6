-- What the engine's walk over a run finds, and what its searches for a first fault answer: its number and where it is.
use Rattle.std.specs.Prelude.{ℕ, ◌≡◌, ◌&&◌, ◌||◌, List, [], ◌∷◌, eqb, Option, None, Some, Result, Ok, Err}
use Rattle.element.specs.Answer.{Answer, accepted, refused, ◌>>◌, check}
use Rattle.operation.specs.Row.{Row, Item, number_of, some_of, named}
use Rattle.operation.specs.Judge.{occurs, once, sized, count_named}
use Rattle.operation.specs.inner.Coded.{holds, Names, Asks, judgement, fault_in, judged_in}
use Rattle.operation.specs.declared.engine.RowFault as F
use Rattle.operation.specs.declared.engine.Notes as N

-- a run in which nothing occurs again and no size is wrong: what the row names of it is counted, and noted
pub record Clear (row : Row) (notes : N.Notes) (xs : List Item) : Type 0 where
  pub again : once row [] xs ≡ accepted tt
  pub right : sized row xs ≡ accepted tt
  pub counted : notes.named ≡ count_named row xs
  pub noted : (k : ℕ) → holds notes.seen k ≡ (named row k && occurs k xs)

-- what a walk found, at any row that names what the set holds: a run that is clear, or where it stopped. There, where
-- nothing occurs again, the size is the first wrong one
abbrev pub Walked : Result N.Notes ℕ → (names : List ℕ) (xs : List Item) → Type 0
Walked (Ok notes) names xs = (row : Row) → Names row names → Clear row notes xs
Walked (Err stop) names xs = (row : Row) → Names row names → once row [] xs ≡ accepted tt →
    sized row xs ≡ refused 26 stop

-- 12 of a run that is not clear, and else 26 there
pub record Faulted (fault : F.RowFault) (names : List ℕ) (stop : ℕ) (xs : List Item) : Type 0 where
  pub judged : (row : Row) → Names row names → fault_in fault ≡ (once row [] xs >> refused 26 stop)

-- 13 by what was noted: what must occur, and behind it the group, by its first, where none of it was
unfoldable pub lacking_all : (group seen : List ℕ) → Answer Unit
lacking_all [] seen = accepted tt
lacking_all (k ∷ ks) seen = check (some_of (holds seen) (k ∷ ks)) 13 (number_of k)

unfoldable pub lacking : (list group : List ℕ) (one other : ℕ) (seen : List ℕ) → Answer Unit
lacking [] group one other seen = lacking_all group seen
lacking (k ∷ ks) group one other seen = do
  check (holds seen k || (eqb k one && holds seen other)) 13 (number_of k)
  lacking ks group one other seen

abbrev pub missing_in : Option ℕ → Answer Unit
missing_in None = accepted tt
missing_in (Some number) = refused 13 number

-- 13 and 14 of a run that is clear, at any row that asks for what the list holds
pub record Settles (r : Result ℕ F.RowFault) (list group : List ℕ) (one other : ℕ) (notes : N.Notes)
    (xs : List Item) : Type 0 where
  pub judged : (row : Row) → Asks row list group one other → Clear row notes xs → judged_in r ≡ judgement row xs
