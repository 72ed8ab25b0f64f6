-- Parameters as a row sees them: the reader marks each by its place, the writer by its entry.
use Rattle.std.specs.Prelude.{ℕ, ◌+◌, List, [], ◌∷◌, length}
use Rattle.component.specs.Table.{Entry}
use Rattle.operation.specs.Row.{Item, key}
use Rattle.component.specs.Grammar.{Parameter}

-- an entry as a row sees it, marked by its place
unfoldable pub item_of : Entry → Item
item_of e = record { is = key e.number e.form; size = e.size; mark = e.place }

-- parameters as a row sees them, marked by their entries, which count from 0
unfoldable pub items_of : ℕ → List Parameter → List Item
items_of i [] = []
items_of i (p ∷ ps) =
    record { is = key p.number p.form; size = length p.content; mark = i } ∷ items_of (i + 1) ps
