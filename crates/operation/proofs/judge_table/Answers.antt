-- `operation::judge_table` meets its contract: nothing where the table has no room, else what the engine says.
use native.Mathlib.Omega.{arith}
use mathlib.Core.Path.{◌∙◌}
use Rattle.component.proofs.Typing.{not_typed}
use Rattle.operation.proofs.Writer.{many, cramped, judged}
use Rattle.operation.proofs.Places.{pointing}
use Rattle.operation.proofs.Verdicts.{no_kind}
use Rattle.operation.proofs.judge_table.Goals as goal
use Rattle.operation.proofs.judge_table.Goals.{then-count-gt64-via-then-count-gt64, then-count-gt64-via-else-count-gt64+then-table-count}

pub returns-then-count-gt64 : goal.returns-then-count-gt64
returns-then-count-gt64 c =
    elim c.then-count-gt64.branch [ then-count-gt64-via-then-count-gt64 w ↦ (many _ _ _ _ w.if-count-gt64.true, omega arith) | then-count-gt64-via-else-count-gt64+then-table-count w ↦ (cramped _ _ _ _ w.if-count-gt64.false w.if-table-count.true, omega arith) ]

pub returns-in-Ok : goal.returns-in-Ok
returns-in-Ok c =
    let e = rw c.in-Ok.ensures.0 at c.judge_operation.ensures in
    (e ∙ judged _ _ _ _ c.if-count-gt64.false c.if-table-count.false, pointing _ _ _ _ c.if-count-gt64.false c.judge_operation.result e)

pub returns-in-Err : goal.returns-in-Err
returns-in-Err c =
    let n = not_typed c.in-Err.ensures.1 in
    (no_kind _ _ ((tt, λ e. n (omega arith)), λ e. n (omega arith)) ∙ judged _ _ _ _ c.if-count-gt64.false c.if-table-count.false, omega arith)
