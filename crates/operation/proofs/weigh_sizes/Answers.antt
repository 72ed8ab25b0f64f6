-- `operation::weigh_sizes` meets its contract: what `measure` refuses, then what the row says, then what was measured.
use mathlib.Core.Path.{◌∙◌}
use Rattle.std.proofs.lemmas.Result.{err_from_is_err_and}
use Rattle.operation.specs.Writing.{weighing_sizes}
use Rattle.operation.proofs.Writer.{weighs, weight_refused, no_weight}
use Rattle.operation.proofs.weigh_sizes.Goals as goal

pub returns-in_err-sizes : goal.returns-in_err-sizes
unfolding weighing_sizes
returns-in_err-sizes c =
    let p = err_from_is_err_and c.from_residual.result c.from_residual.ensures.1 in
    rw (p.1, p.2) (no_weight _ _ c.args.code _ _ _ (λ z. z) c.in_err-sizes.ensures)

pub returns-in_err-row_answer : goal.returns-in_err-row_answer
unfolding weighing_sizes
returns-in_err-row_answer c =
    let p = err_from_is_err_and c.from_residual-in_err-row_answer.result c.from_residual-in_err-row_answer.ensures.1 in
    rw (p.1, p.2) (weight_refused _ _ c.args.code _ _ _ (λ z. z) c.in_ok-sizes.ensures (c.in_err-row_answer.ensures ∙ c.judge_table.ensures.0))

pub returns : goal.returns
unfolding weighing_sizes
returns c = weighs _ _ c.args.code _ _ _ (λ z. z) c.in_ok-sizes.ensures (c.in_ok-row_answer.ensures ∙ c.judge_table.ensures.0)
