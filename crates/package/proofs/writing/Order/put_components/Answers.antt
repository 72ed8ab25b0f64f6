-- `package::Order::put_components` meets its contract.
use native.Mathlib.Omega.{arith}
use Rattle.package.proofs.Laying.{begun, ended, more}
use Rattle.package.proofs.writing.Order.put_components.Goals as goal

pub loop-index-init : goal.loop-index-init
loop-index-init c = begun _ _ _ _ _ c.requires.1

pub overflow_add-at : goal.overflow_add-at
overflow_add-at c =
    omega (
      arith,
      (more _ _ _ _ _ c.loop-index.invariant c.loop-index-test.true (omega arith) c.args.sets.now c.requires.0
          (rw c.to_le_bytes-specifiers.ensures at c.ordered-outline.ensures) c.compose_measured-at.ensures).0,
    )

pub loop-index-preserved : goal.loop-index-preserved
loop-index-preserved c =
    (more _ _ _ _ _ c.loop-index.invariant c.loop-index-test.true (omega arith) c.args.sets.now c.requires.0
    (rw c.to_le_bytes-specifiers.ensures at c.ordered-outline.ensures) c.compose_measured-at.ensures).1

pub returns : goal.returns
returns c = ended _ _ _ _ _ c.loop-index.invariant c.loop-index-test.false
