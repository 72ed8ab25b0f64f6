-- What the writer answers, and what it leaves in the lent output.
use Rattle.std.specs.Prelude.{ℕ, List}
use Rattle.element.specs.Octets.{Octets}
use Rattle.element.specs.Answer.{Answer, accepted, ◌>>=◌, ◌>>◌}
use Rattle.component.specs.Composing.{entries_of, Sizes, sizes_of, octets_of}
use Rattle.component.specs.Needed.{octets_needed}
use Rattle.component.specs.declared.Id as D
use Rattle.component.specs.declared.Code as E
use Rattle.operation.specs.Judge.{judge}
use Rattle.operation.specs.Finding.{row_of}
use Rattle.operation.specs.Items.{items_of}

unfoldable pub writing : (kind : ℕ) (id : D.Id) (code : E.Code) (count : ℕ) (table : List ℕ) (source : Octets)
    (room : ℕ) → Answer Octets
writing kind id code count table source room = do
  ps ← entries_of kind id count table source
  row ← row_of kind code.first 0
  judge row (items_of 0 ps)
  octets_of kind id code ps room

-- all of the refusals but 17, and the octets that are needed
unfoldable pub weighing : (kind : ℕ) (id : D.Id) (code : E.Code) (count : ℕ) (table : List ℕ) (source : Octets) →
    Answer ℕ
weighing kind id code count table source = do
  ps ← entries_of kind id count table source
  row ← row_of kind code.first 0
  judge row (items_of 0 ps)
  accepted (octets_needed kind id.count ps)

-- the same refusals, and what the component takes
unfoldable pub weighing_sizes : (kind : ℕ) (id : D.Id) (code : E.Code) (count : ℕ) (table : List ℕ) (source : Octets) →
    Answer Sizes
weighing_sizes kind id code count table source = do
  ps ← entries_of kind id count table source
  row ← row_of kind code.first 0
  judge row (items_of 0 ps)
  accepted (sizes_of kind id.count ps)
