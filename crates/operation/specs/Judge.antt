-- How a row judges a run of parameters: 12, 26, 13 and 14 in their order.
use Rattle.std.specs.Prelude.{ℕ, ◌+◌, Bool, true, false, ◌&&◌, ◌||◌, not, List, [], ◌∷◌, eqb}
use Rattle.element.specs.Octets.{if}
use Rattle.element.specs.Answer.{Answer, accepted, refused, ◌>>◌, check}
use Rattle.operation.specs.Row.{
  Line,
  must,
  one_of,
  any_of,
  may,
  asks,
  Row,
  some_of,
  on_line,
  named,
  repeats,
  allows,
  Item,
}
use Rattle.operation.specs.Rows.{sizes}

unfoldable pub occurs : ℕ → List Item → Bool
occurs k [] = false
occurs k (x ∷ xs) = eqb x.is k || occurs k xs

-- the mark of the last item on a line
unfoldable pub last_mark : Line → (sofar : ℕ) → List Item → ℕ
last_mark l m [] = m
last_mark l m (x ∷ xs) = last_mark l (if (on_line l x.is) x.mark m) xs

-- 12: what the row names occurs once
unfoldable pub once : Row → (seen xs : List Item) → Answer Unit
once row seen [] = accepted tt
once row seen (x ∷ xs) = do
  check (not (named row x.is && (not (repeats x.is) && occurs x.is seen))) 12 x.mark
  once row (x ∷ seen) xs

-- 26: what the row names has a size that it may have
unfoldable pub sized : Row → List Item → Answer Unit
sized row [] = accepted tt
sized row (x ∷ xs) = do
  check (not (named row x.is) || allows (sizes x.is) x.size) 26 x.mark
  sized row xs

-- 13: what must occur does
unfoldable pub met : Line → List Item → Bool
met (must j) xs = occurs j xs
met (one_of i j) xs = occurs i xs || occurs j xs
met (any_of i js) xs = some_of (λ k. occurs k xs) (i ∷ js)
met (may j) xs = true

unfoldable pub present : Row → List Item → Answer Unit
present [] xs = accepted tt
present (l ∷ ls) xs = check (met l xs) 13 (asks l) >> present ls xs

-- 14: of a choice, not both
unfoldable pub doubled : Line → List Item → Bool
doubled (must j) xs = false
doubled (one_of i j) xs = occurs i xs && occurs j xs
doubled (any_of i js) xs = false
doubled (may j) xs = false

unfoldable pub single : Row → List Item → Answer Unit
single [] xs = accepted tt
single (l ∷ ls) xs = check (not (doubled l xs)) 14 (last_mark l 0 xs) >> single ls xs

unfoldable pub judge : Row → List Item → Answer Unit
judge row xs = once row [] xs >> sized row xs >> present row xs >> single row xs

unfoldable pub count_named : Row → List Item → ℕ
count_named row [] = 0
count_named row (x ∷ xs) = if (named row x.is) (1 + count_named row xs) (count_named row xs)

-- the same refusal with each mark moved by `f`: 13 points to a number of the row, and to no mark
unfoldable pub pointed : (ℕ → ℕ) → Answer Unit → Answer Unit
pointed f (accepted x) = accepted x
pointed f (refused n d) = refused n (if (eqb n 13) d (f d))

unfoldable pub remark : (ℕ → ℕ) → Item → Item
remark f x = record { is = x.is; size = x.size; mark = f x.mark }
