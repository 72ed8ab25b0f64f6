-- `operation::outline_of` meets its contract.
use mathlib.Core.Path.{refl}
use Rattle.operation.specs.Packed.{octet_at}
use Rattle.operation.proofs.summary.outline_of.Goals as goal

pub returns : goal.returns
unfolding octet_at
returns c = (refl, refl, refl, refl)
