-- `operation::first_missing` meets its contract. The invariant: the whole answer is that of what is left of the list; what each key does is one law of
-- `Musts`.
use mathlib.Core.Path.{◌≡◌}
use Rattle.operation.specs.inner.Firsts.{lacking}
use Rattle.operation.proofs.Musts.{lacking_from}
use Rattle.operation.proofs.engine.first_missing.Given as goal

abbrev pub invariant-loop-asked : goal.invariant-loop-asked
invariant-loop-asked l = lacking l.must l.group l.one l.other l.seen ≡ lacking_from l.must l.group l.one l.other l.seen l.asked-index
