-- `package::Order::weigh` meets its contract.
use mathlib.Core.Path.{ap}
use lib.ListN.{get_or}
use native.Mathlib.Omega.{arith}
use Rattle.std.proofs.lemmas.Result.{err_from_is_err_and}
use Rattle.package.proofs.Weighing.{few_octets, begun, all_wrong, all_weighed, refuses_all, goes_on}
use Rattle.package.proofs.writing.Order.weigh.Goals as goal

pub loop-index-init : goal.loop-index-init
loop-index-init c = (omega arith, begun c.requires)

pub overflow_cast-sets : goal.overflow_cast-sets
overflow_cast-sets c = omega (arith, few_octets _ _ _ _ _ _ c.in_ok-whole.ensures)

pub overflow_add-sum : goal.overflow_add-sum
overflow_add-sum c = omega (arith, few_octets _ _ _ _ _ _ c.in_ok-whole.ensures, c.loop-index.invariant.0)

pub loop-index-preserved : goal.loop-index-preserved
loop-index-preserved c = (
  omega (arith, few_octets _ _ _ _ _ _ c.in_ok-whole.ensures, c.loop-index.invariant.0),
  goes_on c.loop-index.invariant.1 c.loop-index-test.true (omega arith) (ap (λ s. get_or s c.loop-index.index 0) c.to_le_bytes-specifiers.ensures) c.ordered-outline.ensures c.in_ok-whole.ensures
      c.first_wrong-wrong.ensures,
)

pub returns-in_err-whole : goal.returns-in_err-whole
returns-in_err-whole c =
    let p = err_from_is_err_and c.from_residual.result c.from_residual.ensures.1 in
    rw (p.1, p.2) (
      refuses_all c.loop-index.invariant.1 c.loop-index-test.true (omega arith) (ap (λ s. get_or s c.loop-index.index 0) c.to_le_bytes-specifiers.ensures) c.ordered-outline.ensures
          c.in_err-whole.ensures,
      tt,
    )

pub returns-in-Some : goal.returns-in-Some
returns-in-Some c = rw c.at.ensures (all_wrong c.loop-index.invariant.1 c.loop-index-test.false c.in-Some.is, tt)

pub returns-in-None : goal.returns-in-None
returns-in-None c = all_weighed c.loop-index.invariant.1 c.loop-index-test.false c.in-None.is
