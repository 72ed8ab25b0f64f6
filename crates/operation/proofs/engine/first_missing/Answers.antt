-- `operation::first_missing` meets its contract. The invariant: the whole answer is that of what is left of the list; what each key does is one law of
-- `Musts`.
use mathlib.Core.Path.{sym, ap, ◌∙◌}
use mathlib.Core.Bool.{not, true≢false}
use borrow.Author.Tests.{not-true, not-false, ne_eqb}
use Rattle.std.proofs.Common.{arith}
use Rattle.operation.proofs.Musts.{none_left, noted, not_one, other_noted, neither}
use Rattle.operation.proofs.engine.first_missing.Goals as goal
use Rattle.operation.proofs.engine.first_missing.Goals.{then-key-one, else-key-one, else-not-has-via-then-not-has+else-not-has-2, else-not-has-via-else-not-has}

pub loop-asked-preserved : goal.loop-asked-preserved
loop-asked-preserved c =
    let a = c.args in
    let l = c.loop-asked in
    l.invariant ∙ elim c.else-not-has.branch [
      | else-not-has-via-then-not-has+else-not-has-2 w ↦ elim w.if-key-one.branch [
        | then-key-one v ↦ absurd (true≢false (sym (v.value-is ∙ ap not (ne_eqb _ _ v.if-key-one.true)) ∙ w.if-not-has-2.false))
        | else-key-one v ↦ sym (other_noted a.must.now a.group.now a.one a.other a.seen.now l.asked-index c.loop-asked-test.true c.from-key.ensures c.has.ensures w.if-not-has.true v.if-key-one.false v.has-else-key-one.ensures (not-false _ (sym v.value-is ∙ w.if-not-has-2.false)))
      ]
      | else-not-has-via-else-not-has w ↦ sym (noted a.must.now a.group.now a.one a.other a.seen.now l.asked-index c.loop-asked-test.true c.from-key.ensures c.has.ensures w.if-not-has.false)
    ]

pub returns : goal.returns
returns c =
    let a = c.args in
    c.group_missing.ensures ∙ none_left a.must.now a.group.now a.one a.other a.seen.now c.loop-asked.asked-index (omega arith) ∙ sym c.loop-asked.invariant

pub returns-then-not-has-2 : goal.returns-then-not-has-2
returns-then-not-has-2 c =
    let a = c.args in
    let l = c.loop-asked in
    elim c.if-key-one.branch [
      | then-key-one v ↦ not_one a.must.now a.group.now a.one a.other a.seen.now l.asked-index c.loop-asked-test.true c.from-key.ensures c.has.ensures c.if-not-has.true v.if-key-one.true ∙ sym l.invariant
      | else-key-one v ↦ neither a.must.now a.group.now a.one a.other a.seen.now l.asked-index c.loop-asked-test.true c.from-key.ensures c.has.ensures c.if-not-has.true v.if-key-one.false v.has-else-key-one.ensures (not-true _ (sym v.value-is ∙ c.if-not-has-2.true)) ∙ sym l.invariant
    ]
