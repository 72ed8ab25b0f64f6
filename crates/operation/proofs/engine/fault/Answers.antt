-- `operation::fault` meets its contract. The invariant: 12 is what is left of it. The first entry with an entry's key is searched for: none that was
-- passed has it, and the entry itself does.
use mathlib.Core.Path.{◌≡◌, sym, ◌∙◌}
use native.Mathlib.Omega.{arith}
use borrow.Author.Rules.{rules}
use Rattle.operation.proofs.Entries.{one_more, not_yet, none_before, before, passed}
use Rattle.operation.proofs.Repeats as R
use Rattle.operation.proofs.engine.fault.Goals as goal
use Rattle.operation.proofs.engine.fault.Goals.{then-has+then-key-from+else-loop-first-test+else-before, else-has, else-has-via-then-has+else-key-from, else-has-via-else-has}

pub parameters-init : goal.parameters-init
parameters-init c = λ row _. (R.begins row _ _).again

pub key_at-requires : goal.key_at-requires
key_at-requires c = omega arith

pub loop-first-init : goal.loop-first-init
loop-first-init c = (search rules, none_before _ _)

pub loop-first-smaller : goal.loop-first-smaller
loop-first-smaller c = omega (arith, not_yet _ c.key_at.ensures c.key_at-key.ensures c.loop-first-test.true c.loop-first.invariant.0)

pub loop-first-preserved : goal.loop-first-preserved
loop-first-preserved c =
    let l = c.loop-first in (
      omega (arith, not_yet _ c.key_at.ensures c.key_at-key.ensures c.loop-first-test.true l.invariant.0),
      sym (passed (one_more _ _) c.key_at.ensures c.loop-first-test.true) ∙ l.invariant.1,
    )

pub parameters-preserved : goal.parameters-preserved
parameters-preserved c =
    let l = c.parameters in
    elim c.if-has.branch [
      | then-has+then-key-from+else-loop-first-test+else-before w ↦
          let h = sym c.has.ensures ∙ w.if-has.true in
          let e : w.loop-first.first ≡ l.at = omega arith in
          λ row m. R.not_again row _ _ l.at (omega arith) c.key_at-key.ensures (l.invariant row m) (rw (sym (m _) ∙ h) (R.not_before _ _ (rw e at w.loop-first.invariant.1)))
      | else-has w ↦ elim w.else-has.branch [
        | else-has-via-then-has+else-key-from v ↦
            let h = sym c.has.ensures ∙ v.if-has.true in
            λ row m. R.not_again row _ _ l.at (omega arith) c.key_at-key.ensures (l.invariant row m) (rw (sym (m _) ∙ h) (R.digits _ _ (omega arith)))
        | else-has-via-else-has v ↦
            let h = sym c.has.ensures ∙ v.if-has.false in
            λ row m. R.not_again row _ _ l.at (omega arith) c.key_at-key.ensures (l.invariant row m) (rw (sym (m _) ∙ h))
      ]
    ]

pub returns-then-entries-at : goal.returns-then-entries-at
returns-then-entries-at c =
    let l = c.parameters in
    record { judged = λ row m. rw (l.invariant row m ∙ R.none_again row _ _ l.at (omega arith)) }

pub returns-then-before : goal.returns-then-before
returns-then-before c =
    let l = c.parameters in
    let h = sym c.has.ensures ∙ c.if-has.true in
    record {
      judged = λ row m. rw (R.again row _ _ l.at (omega arith) c.key_at-key.ensures (l.invariant row m) (sym (sym (m _) ∙ h)) (R.not_digits _ (λ e. omega arith))
          (before _ _ c.if-before.true (sym c.loop-first-test.false ∙ c.key_at.ensures)));
    }
