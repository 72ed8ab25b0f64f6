-- What the reader answers, and what it leaves in the lent table.
use Rattle.std.specs.Prelude.{ℕ, ◌+◌, List, [], ◌∷◌, map, get_or, leb}
use Rattle.element.specs.Octets.{Octets, if, between}
use Rattle.element.specs.Answer.{Answer, accepted, refused, ◌>>=◌, ◌>>◌, check}
use Rattle.component.specs.Table.{Entry, table_size, table_with}
use Rattle.component.specs.Layout.{Head, Layout, layout_from, layout_at, code_octets, operation_place}
use Rattle.operation.specs.Row.{Row, Item, named}
use Rattle.operation.specs.Judge.{judge, count_named}
use Rattle.operation.specs.Finding.{row_of}
use Rattle.operation.specs.Items.{item_of}
use Rattle.operation.specs.Codes.{operation_of, told_code}

pub record Shown : Type 0 where
  pub kind : ℕ
  pub id : Octets
  pub code : Octets
  pub entries : List Entry
  pub named : ℕ
  pub other : ℕ

-- what a row does not name is counted as other
unfoldable pub count_other : Row → List Item → ℕ
count_other row [] = 0
count_other row (x ∷ xs) = if (named row x.is) (count_other row xs) (1 + count_other row xs)

-- the operation of a layout
unfoldable pub operation_in : Octets → Head → (given : ℕ) → ℕ
operation_in s h given = operation_of h.kind (get_or s h.code 0) given

-- what is shown of a layout by its row
abbrev pub shown_by : Octets → Layout → (given : ℕ) → Row → Shown
shown_by s l given row =
    record {
      kind = l.head.kind;
      id = between l.head.id.start l.head.id.end s;
      code = told_code l.head.kind (code_octets s l.head) given;
      entries = l.entries;
      named = count_named row (map item_of l.entries);
      other = count_other row (map item_of l.entries);
    }

unfoldable pub shown_of : Octets → (given : ℕ) → Layout → Answer Shown
shown_of s given l = do
  row ← row_of l.head.kind (operation_in s l.head given) (operation_place l.head)
  judge row (map item_of l.entries)
  accepted (shown_by s l given row)

-- the component that stands from `from` to the end of the octets
unfoldable pub reading_from : Octets → (from given : ℕ) → Answer Shown
reading_from s from given = layout_from s from >>= shown_of s given

-- the same, with 1 and 2 asked first
unfoldable pub reading_at : Octets → (from given room : ℕ) → Answer Shown
reading_at s from given room = do
  check (leb table_size room) 1 0
  l ← layout_at s from
  shown_of s given l

abbrev pub reading : Octets → (given room : ℕ) → Answer Shown
reading s given room = reading_at s 0 given room

-- numbers beyond those filled stay, and a refusal leaves all
unfoldable pub table_after : List ℕ → Answer Shown → List ℕ
table_after t (accepted x) = table_with x.entries t
table_after t (refused n d) = t
