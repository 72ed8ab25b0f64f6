-- `package::id_size` meets its contract.
use borrow.Author.Tests.{le-ltb, lt-ltb, ne_eqb}
use native.Mathlib.Omega.{arith}
use Rattle.package.specs.Types.{id_size}
use Rattle.package.proofs.layout.id_size.Goals as goal

pub returns-in-225 : goal.returns-in-225
unfolding id_size
returns-in-225 c = rw c.in-225.is

pub returns-in-0-to-228 : goal.returns-in-0-to-228
unfolding id_size
returns-in-0-to-228 c = simp (ne_eqb c.args.kind 0xE1 (λ e. omega arith), lt-ltb c.args.kind 0xE5 (omega arith))

pub returns-in_default : goal.returns-in_default
unfolding id_size
returns-in_default c = simp (ne_eqb c.args.kind 0xE1 (λ e. omega arith), le-ltb c.args.kind 0xE5 (omega arith))
