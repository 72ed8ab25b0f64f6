-- `lines::rows::digits_before` meets its contract.
use Rattle.std.proofs.Common.{arith, rules}
use Rattle.lines.proofs.Spelling.{begins, goes_on, ends}
use Rattle.lines.proofs.rows.digits_before.Goals as goal

pub loop-rest-init : goal.loop-rest-init
loop-rest-init c = begins (search rules)

pub loop-rest-preserved : goal.loop-rest-preserved
loop-rest-preserved c = goes_on c.loop-rest.invariant (omega arith) (omega arith) (omega arith)

pub returns : goal.returns
returns c = (ends c.loop-rest.invariant (omega arith) (omega arith) (omega arith), omega arith)
