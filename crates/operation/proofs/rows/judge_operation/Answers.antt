-- `operation::judge_operation` meets its contract: an INVOKE and a RESULT have their rows, and another type has none.
use native.Mathlib.Omega.{arith}
use Rattle.operation.proofs.Verdicts.{no_kind}
use Rattle.operation.proofs.rows.judge_operation.Goals as goal

pub returns-in-Error : goal.returns-in-Error
returns-in-Error c = rw c.in-Error.is (no_kind _ _ ((tt, λ e. omega arith), λ e. omega arith))

pub returns-in-Reject : goal.returns-in-Reject
returns-in-Reject c = rw c.in-Reject.is (no_kind _ _ ((tt, λ e. omega arith), λ e. omega arith))
