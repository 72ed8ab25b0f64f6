-- `operation::note` meets its contract. The invariant: 12, 26 and the count are what is left of them, by the laws of `Repeats`, and of the entries so
-- far those that are named are noted, by the laws of `Noting`.
use Prim.Native.Nat.{◌-◌, ◌≤◌}
use mathlib.Core.Path.{◌≡◌}
use lib.ListN.{length}
use Rattle.operation.specs.Row.{Row}
use Rattle.operation.specs.inner.Coded.{Names}
use Rattle.operation.proofs.Repeats as R
use Rattle.operation.proofs.Sets.{Words}
use Rattle.operation.proofs.Noting as N
use Rattle.operation.proofs.engine.note.Given as goal

abbrev pub invariant-parameters : goal.invariant-parameters
invariant-parameters l =
    (l.named ≤ l.at) × (l.at ≤ l.entries.count) × (length l.seen ≡ 13) × N.Notes l.names l.entries.table.now l.seen l.at × ((row : Row) → Names row l.names → R.Left row l.entries.table.now l.entries.count l.named l.at) × Words l.seen

abbrev pub decreases-parameters : goal.decreases-parameters
decreases-parameters l = l.entries.count - l.at
