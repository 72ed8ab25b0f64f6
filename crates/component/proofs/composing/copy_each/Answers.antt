-- `component::copy_each` meets its contract.
use mathlib.Core.Path.{◌≡◌}
use lib.ListN.{length-set}
use borrow.Author.Rules.{rules}
use native.Mathlib.Omega.{arith}
use Rattle.component.proofs.Putting.{none_copied, more_copied, all_copied}
use Rattle.component.proofs.composing.copy_each.Goals as goal

pub octets-init : goal.octets-init
octets-init c = (search rules, search rules, none_copied _ _ _ _)

pub octets-preserved : goal.octets-preserved
octets-preserved c = (search rules, simp length-set (omega arith), more_copied _ _ _ _ _ (omega arith) (omega arith) c.octets.invariant.2)

pub returns : goal.returns
returns c = let e : c.octets.i ≡ c.args.size = omega arith in all_copied _ _ _ _ _ (omega arith) (rw e at c.octets.invariant.2)
