-- `package::element_at` meets its contract.
use mathlib.Core.Path.{ap, ◌∙◌}
use Rattle.component.proofs.Laying.{element_within}
use Rattle.package.specs.Layout.{layout_fault}
use Rattle.package.proofs.layout.element_at.Goals as goal

pub returns-in-Ok-clause-answer : goal.returns-in-Ok-clause-answer
returns-in-Ok-clause-answer c = ap layout_fault (c.in-Ok.ensures.answer ∙ element_within _ _ c.requires.1 c.requires.0)

pub returns-in-Err-clause-answer : goal.returns-in-Err-clause-answer
returns-in-Err-clause-answer c = rw c.at.ensures (ap layout_fault (c.in-Err.ensures.answer ∙ element_within _ _ c.requires.1 c.requires.0))
