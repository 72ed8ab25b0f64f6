-- `errors::names` meets its contract, which computes.
use mathlib.Core.Path.{refl}
use Rattle.errors.specs.Table6.{table6, octets_of, names_in, names}
use Rattle.errors.proofs.names.Goals as goal

pub returns : goal.returns
unfolding table6 octets_of names_in names
returns c = refl
