-- `package::is_carried` meets its contract.
use borrow.Author.Tests.{eq-eqb, ne_eqb}
use Rattle.operation.specs.Codes.{operation_of}
use Rattle.package.specs.Reading.{carries}
use Rattle.package.proofs.carriage.is_carried.Goals as goal
use Rattle.package.proofs.carriage.is_carried.Goals.{else-kind-eq233, then-kind-eq233}

pub returns : goal.returns
unfolding carries operation_of
returns c = (elim c.if-kind-eq233.branch [ then-kind-eq233 w ↦ simp (eq-eqb _ 0xE9 w.if-kind-eq233.true) (cc) | else-kind-eq233 w ↦ simp (ne_eqb _ 0xE9 w.if-kind-eq233.false) (cc) ])
