-- `operation::write` meets its contract: where the row accepts, what `compose` makes; else what `measure` refuses, and then what the row says.
use mathlib.Core.Path.{ap, ◌∙◌}
use Rattle.std.proofs.lemmas.Result.{err_from_is_err_and}
use Rattle.operation.specs.inner.Coded.{judged_in}
use Rattle.operation.proofs.Writer.{composes, row_answers, measure_refuses}
use Rattle.operation.proofs.write.Goals as goal

pub returns-in-Ok : goal.returns-in-Ok
returns-in-Ok c = composes _ _ _ _ _ _ _ c.in-Ok.ensures.0 c.compose.ensures

pub returns-in_err-measure-in-Err : goal.returns-in_err-measure-in-Err
returns-in_err-measure-in-Err c =
    let p = err_from_is_err_and c.from_residual.result c.from_residual.ensures.1 in
    rw (p.1, p.2) (measure_refuses _ _ _ _ _ _ _ c.in_err-measure-in-Err.ensures)

pub returns-in_ok-measure-in-Err : goal.returns-in_ok-measure-in-Err
returns-in_ok-measure-in-Err c =
    let p = row_answers _ _ _ _ _ _ _ c.in_ok-measure-in-Err.ensures c.in-Err.field-0 c.in-Err.ensures.0 in
    (c.row_answer.ensures ∙ ap judged_in c.in-Err.is ∙ p.0, p.1)
