-- `package::wanted_at` meets its contract.
use mathlib.Core.Path.{ap, ◌∙◌}
use Rattle.component.proofs.Laying.{wanted_within}
use Rattle.package.specs.Layout.{layout_fault}
use Rattle.package.proofs.layout.wanted_at.Goals as goal

pub returns-in-Ok-Some-clause-answer : goal.returns-in-Ok-Some-clause-answer
returns-in-Ok-Some-clause-answer c = ap layout_fault (rw c.in-Ok-Some.field-0-is at (c.in-Ok-Some.ensures.answer 22) ∙ wanted_within _ _ 22 _ c.requires.1)

pub returns-in-Ok-None-clause-answer : goal.returns-in-Ok-None-clause-answer
returns-in-Ok-None-clause-answer c = rw c.at.ensures (ap layout_fault (rw c.in-Ok-None.field-0-is at (c.in-Ok-None.ensures.answer 22) ∙ wanted_within _ _ 22 _ c.requires.1))

pub returns-in-Err-clause-answer : goal.returns-in-Err-clause-answer
returns-in-Err-clause-answer c = rw c.at-in-Err.ensures (ap layout_fault (c.in-Err.ensures.answer 22 ∙ wanted_within _ _ 22 _ c.requires.1))
