-- `lines::package_lines::eight_of` meets its contract.
use Rattle.std.proofs.Common.{arith}
use Rattle.operation.specs.Packed.{octets}
use Rattle.lines.specs.Packages.{eight_of}
use Rattle.lines.proofs.package_lines.eight_of.Goals as goal

pub returns : goal.returns
unfolding eight_of octets
returns c = omega arith
