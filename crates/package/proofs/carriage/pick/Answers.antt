-- `package::pick` meets its contract.
use borrow.Author.Tests.{ne_eqb}
use native.Mathlib.Omega.{arith}
use Rattle.package.specs.Carriage.{column}
use Rattle.package.proofs.carriage.pick.Goals as goal

pub returns-in-233 : goal.returns-in-233
unfolding column
returns-in-233 c = rw c.in-233.is

pub returns-in-234 : goal.returns-in-234
unfolding column
returns-in-234 c = rw c.in-234.is

pub returns-in-235 : goal.returns-in-235
unfolding column
returns-in-235 c = rw c.in-235.is

pub returns-in_default : goal.returns-in_default
unfolding column
returns-in_default c = simp (ne_eqb c.args.kind 0xE9 (λ e. omega arith), ne_eqb c.args.kind 0xEA (λ e. omega arith), ne_eqb c.args.kind 0xEB (λ e. omega arith))
