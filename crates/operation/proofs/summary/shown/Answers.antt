-- `operation::shown` meets its contract: each octet is one digit to the base of 256.
use native.Mathlib.Omega.{arith}
use Rattle.operation.specs.Packed.{octets, packed_reading}
use Rattle.operation.proofs.summary.shown.Goals as goal

pub returns : goal.returns
unfolding octets packed_reading
returns c = omega (arith, c.octet.ensures)
