-- `operation::last_of` meets its contract. The invariant: the last entry of the whole run is that of the entries that are left, from the last so far.
use mathlib.Core.Path.{◌≡◌}
use Rattle.operation.specs.Row.{one_of}
use Rattle.operation.specs.Judge.{last_mark}
use Rattle.operation.specs.inner.Coded.{items_from}
use Rattle.operation.proofs.Entries.{rest}
use Rattle.operation.proofs.engine.last_of.Given as goal

abbrev pub invariant-loop-entry : goal.invariant-loop-entry
invariant-loop-entry l =
    last_mark (one_of l.one l.other) 0 (items_from l.entries.table.now 0 l.entries.count)
    ≡ last_mark (one_of l.one l.other) l.last (rest l.entries.table.now l.entries.count l.entry)
