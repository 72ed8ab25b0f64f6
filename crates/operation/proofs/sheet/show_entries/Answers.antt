-- `operation::show_entries` meets its contract.
use Rattle.std.proofs.Common.{rules, tests}
use Rattle.operation.specs.inner.Sheet.{shown_from}
use Rattle.operation.proofs.sheet.show_entries.Goals as goal
use Rattle.operation.proofs.sheet.show_entries.Goals.{then-count-gt64-via-then-count-gt64, then-count-gt64-via-else-count-gt64+then-sheet-count, then-count-gt64-via-else-count-gt64+else-sheet-count+then-table-count}

pub returns-then-count-gt64 : goal.returns-then-count-gt64
unfolding shown_from
returns-then-count-gt64 c =
    elim c.then-count-gt64.branch [
      | then-count-gt64-via-then-count-gt64 w ↦ search (rules, tests)
      | then-count-gt64-via-else-count-gt64+then-sheet-count w ↦ search (rules, tests)
      | then-count-gt64-via-else-count-gt64+else-sheet-count+then-table-count w ↦ search (rules, tests)
    ]

pub returns : goal.returns
unfolding shown_from
returns c = search (rules, tests)
