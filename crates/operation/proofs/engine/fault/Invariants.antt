-- `operation::fault` meets its contract. The invariant: 12 is what is left of it. The first entry with an entry's key is searched for: none that was
-- passed has it, and the entry itself does.
use Prim.Native.Nat.{◌-◌, ◌≤◌}
use mathlib.Core.Path.{◌≡◌}
use mathlib.Core.Bool.{false}
use Rattle.operation.specs.Row.{Row}
use Rattle.operation.specs.Judge.{occurs}
use Rattle.operation.specs.inner.Coded.{Names}
use Rattle.operation.proofs.Entries.{earlier}
use Rattle.operation.proofs.Repeats as R
use Rattle.operation.proofs.engine.fault.Given as goal

abbrev pub invariant-loop-first : goal.invariant-loop-first
invariant-loop-first l = (l.first ≤ l.at) × (occurs l.key (earlier l.entries.table.now l.first) ≡ false)

abbrev pub decreases-loop-first : goal.decreases-loop-first
decreases-loop-first l = l.at - l.first

abbrev pub invariant-parameters : goal.invariant-parameters
invariant-parameters l = (row : Row) → Names row l.names → R.Again row l.entries.table.now l.entries.count l.at

abbrev pub decreases-parameters : goal.decreases-parameters
decreases-parameters l = l.entries.count - l.at
