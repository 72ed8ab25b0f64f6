-- A run of items, and the same run with newcomers anywhere among it that the row does not name.
use mathlib.Core.Path.{◌≡◌}
use mathlib.Core.Bool.{false}
use mathlib.Core.List.{List, [], ◌∷◌}
use Rattle.operation.specs.Row.{Row, Item, named}

pub data Grown (row : Row) : List Item → List Item → Type 0 where
  done : Grown row [] []
  kept : (x : Item) {xs ys : List Item} → Grown row xs ys → Grown row (x ∷ xs) (x ∷ ys)
  newcomer : (x : Item) {xs ys : List Item} → named row x.is ≡ false → Grown row xs ys → Grown row xs (x ∷ ys)
