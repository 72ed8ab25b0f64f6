-- `package::is_package` meets its contract.
use mathlib.Core.Bool.{and-false}
use borrow.Author.Tests.{le-leb, lt-leb}
use native.Mathlib.Omega.{arith}
use Rattle.package.specs.Types.{package_type}
use Rattle.package.proofs.layout.is_package.Goals as goal

pub returns-in-225-to-230 : goal.returns-in-225-to-230
unfolding package_type
returns-in-225-to-230 c = simp (le-leb 0xE1 c.args.kind (omega arith), le-leb c.args.kind 0xE6 (omega arith))

pub returns-in_default : goal.returns-in_default
unfolding package_type
returns-in_default c = simp (lt-leb 0xE1 c.args.kind (omega arith))

pub returns-in_default-2 : goal.returns-in_default-2
unfolding package_type
returns-in_default-2 c = simp (lt-leb c.args.kind 0xE6 (omega arith), and-false)
