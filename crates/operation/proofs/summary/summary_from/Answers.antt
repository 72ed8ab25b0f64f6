-- `operation::summary_from` meets its contract: what is refused has a number too.
use mathlib.Core.Path.{ap, ◌∙◌}
use Rattle.operation.specs.Packed.{packed_reading}
use Rattle.operation.proofs.summary.summary_from.Goals as goal

pub returns-in-Err : goal.returns-in-Err
unfolding packed_reading
returns-in-Err c = (c.packed.ensures ∙ rw c.number.ensures.number (ap packed_reading c.in-Err.ensures.refused), c.in-Err.ensures.table)
