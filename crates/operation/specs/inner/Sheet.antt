-- The work sheet of a reading: what the walk over the parameters leaves in it, and what is copied from it.
use Rattle.std.specs.Prelude.{ℕ, Result, Ok, Err, ◌*◌, ◌≡◌, ◌&&◌, List, ◌++◌, length, take, drop, leb}
use Rattle.element.specs.Octets.{if}
use Rattle.element.specs.Answer.{Answer, accepted, refused}
use Rattle.element.specs.declared.refusal.Refusal as F
use Rattle.element.specs.Told.{number_of}
use Rattle.component.specs.Table.{Entry, width, table_with}

-- all parameters stand in the sheet, or the walk stopped at the first fault, after which nobody looks at the sheet
abbrev pub Walked : Answer (List Entry) → Result ℕ F.Refusal → (sheet after : List ℕ) → Type 0
Walked a (Ok n) t u = (es : List Entry) × (a ≡ accepted es) × (n ≡ length es) × (u ≡ table_with es t)
Walked a (Err r) t u = a ≡ refused (number_of r.reason) r.detail

-- the first `count` numbers of the one in place of the other's
abbrev pub copied : (from to : List ℕ) (count : ℕ) → List ℕ
copied from to count = take count from ++ drop count to

-- the numbers of the first `count` entries, where both have them
unfoldable pub shown_from : (sheet : List ℕ) (count : ℕ) (table : List ℕ) → List ℕ
shown_from sheet count t =
    if (leb count 64 && (leb (width * count) (length sheet) && leb (width * count) (length t)))
    (copied sheet t (width * count))
    t
