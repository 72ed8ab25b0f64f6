-- `lines::rows::number_before` meets its contract.
use Rattle.std.proofs.Common.{◌∙◌, arith, length-set}
use Rattle.lines.specs.Line.{cell}
use Rattle.lines.proofs.Fronts as fronts
use Rattle.lines.proofs.rows.number_before.Goals as goal

pub digits_before-requires : goal.digits_before-requires
digits_before-requires c = (omega arith, simp length-set (omega arith))

pub shape_of-text : goal.shape_of-text
shape_of-text c = c.digits_before.auto.text ∙ simp length-set

pub returns : goal.returns
unfolding cell
returns c = (fronts.then (fronts.one _ _ _ (omega arith) (omega arith)) c.digits_before.ensures.0, omega arith)
