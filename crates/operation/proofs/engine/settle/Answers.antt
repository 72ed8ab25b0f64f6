-- `operation::settle` meets its contract: what each search ensures is carried to the constructor that the `match` took apart, and each `return` is one
-- law of `Settling`.
use mathlib.Core.Path.{sym, ap, ◌∙◌}
use borrow.Author.Tests.{ne_eqb, eqb-false}
use Rattle.element.specs.Answer.{refused}
use Rattle.operation.proofs.Settling as S
use Rattle.operation.proofs.engine.settle.Goals as goal
use Rattle.operation.proofs.engine.settle.Goals.{else-one-other-via-then-one-other+then-has+else-has-2, else-one-other-via-then-one-other+else-has, else-one-other-via-else-one-other}

pub returns-in-Some : goal.returns-in-Some
returns-in-Some c = record { judged = λ row a n. S.missing row _ _ _ _ _ _ a n c.in-Some.ensures }

pub returns-then-has-2 : goal.returns-then-has-2
returns-then-has-2 c = record { judged = λ row a n. ap (refused 14) c.last_of.ensures ∙ S.both row _ _ _ _ _ _ a n c.in_default.ensures (ne_eqb _ _ c.if-one-other.true) (sym c.has.ensures ∙ c.if-has.true) (sym c.has-then-has.ensures ∙ c.if-has-2.true) }

pub returns : goal.returns
returns c =
    record {
      judged = λ row a n.
          elim c.else-one-other.branch [
            | else-one-other-via-then-one-other+then-has+else-has-2 w ↦ S.not_other row _ _ _ _ _ _ a n c.in_default.ensures (sym w.has-then-has.ensures ∙ w.if-has-2.false)
            | else-one-other-via-then-one-other+else-has w ↦ S.not_one row _ _ _ _ _ _ a n c.in_default.ensures (sym w.has.ensures ∙ w.if-has.false)
            | else-one-other-via-else-one-other w ↦ S.no_choice row _ _ _ _ _ _ a n c.in_default.ensures (λ d. eqb-false _ _ d w.if-one-other.false)
          ];
    }
