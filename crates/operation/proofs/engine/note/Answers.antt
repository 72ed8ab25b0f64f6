-- `operation::note` meets its contract. The invariant: 12, 26 and the count are what is left of them, by the laws of `Repeats`, and of the entries so
-- far those that are named are noted, by the laws of `Noting`.
use Prim.Native.Nat.{ℕ, ◌/◌, ◌%◌, ◌<◌}
use mathlib.Core.Path.{sym, ap, ◌∙◌}
use mathlib.Core.Bool.{not}
use lib.ListN.{length, length-set, length-replicate}
use native.Mathlib.Omega.{arith}
use borrow.Author.Rules.{rules}
use borrow.Author.Tests.{not-true, not-false}
use Rattle.operation.specs.Row.{allows}
use Rattle.operation.specs.Rows.{sizes}
use Rattle.operation.proofs.Repeats as R
use Rattle.operation.proofs.Sets.{inside, set_there, clear_there, shifted, word_room, empty_words, still_words}
use Rattle.operation.proofs.Noting as N
use Rattle.operation.proofs.engine.note.Goals as goal
use Rattle.operation.proofs.engine.note.Goals.{then-has+then-noted-bit-eq1+else-key-from, then-has+else-noted-bit-eq1+else-missized, else-has}

pub parameters-init : goal.parameters-init
parameters-init c =
    let a = c.args in (
      search rules,
      search rules,
      length-replicate {A = ℕ} 13 0,
      N.none_noted a.names.now a.entries.table.now,
      λ row _. R.begins row _ _,
      empty_words,
    )

pub bounds-seen-word : goal.bounds-seen-word
bounds-seen-word c = let i = inside c.args.names.now _ (sym c.has.ensures ∙ c.if-has.true) in omega arith

pub overflow_add-seen : goal.overflow_add-seen
overflow_add-seen c =
    let l = c.parameters in
    let k = c.key_at-key.result in
    let r = word_room l.seen k (clear_there l.seen k c.if-noted-bit-eq1.false) (l.invariant.5 (k / 64)) in
    rw (shifted (k % 64) (omega arith)) (omega arith)

pub bounds-seen-word-else-noted-bit-eq1 : goal.bounds-seen-word-else-noted-bit-eq1
bounds-seen-word-else-noted-bit-eq1 c = let i = inside c.args.names.now _ (sym c.has.ensures ∙ c.if-has.true) in omega arith

pub parameters-preserved : goal.parameters-preserved
parameters-preserved c =
    let a = c.args in
    let l = c.parameters in
    let table = a.entries.table.now in
    let count = a.entries.count in
    let k = c.key_at-key.ensures in
    let before = c.if-entries-at.false in
    elim c.if-has.branch [
      | then-has+then-noted-bit-eq1+else-key-from w ↦
          let h = sym c.has.ensures ∙ w.if-has.true in
          rw (w.seen-is, w.named-is) (
            search rules,
            search rules,
            l.invariant.2,
            N.noted_before a.names.now table l.seen l.at l.invariant.3 k (set_there l.seen _ w.if-noted-bit-eq1.true),
            λ row m. R.fits row table count l.at before k (l.invariant.4 row m) (sym (sym (m _) ∙ h)) (R.digits _ _ (omega arith)) (R.digits_of_any_size _ _ (omega arith)),
            l.invariant.5,
          )
      | then-has+else-noted-bit-eq1+else-missized w ↦
          let h = sym c.has.ensures ∙ w.if-has.true in
          let z = clear_there l.seen _ w.if-noted-bit-eq1.false in
          let j = inside a.names.now _ h in
          let i : c.key_at-key.result / 64 < length l.seen = omega arith in
          rw (w.seen-is, w.named-is, shifted (c.key_at-key.result % 64) (omega arith)) (
            search rules,
            search rules,
            length-set l.seen _ _ ∙ l.invariant.2,
            N.noted_now a.names.now table l.seen l.at l.invariant.3 k h z i,
            λ row m. R.fits row table count l.at before k (l.invariant.4 row m) (sym (sym (m _) ∙ h)) (N.not_before a.names.now table l.seen l.at l.invariant.3 k h z) (not-false _ (ap (λ n. not (allows (sizes c.key_at-key.result) n)) (sym w.size_at.ensures) ∙ sym w.missized.ensures ∙ w.if-missized.false)),
            still_words l.seen _ z i l.invariant.5,
          )
      | else-has w ↦
          let h = sym c.has.ensures ∙ w.if-has.false in
          rw (w.seen-is, w.named-is) (
            search rules,
            search rules,
            l.invariant.2,
            N.unnamed a.names.now table l.seen l.at l.invariant.3 k h,
            λ row m. R.unnamed row table count l.at before k (l.invariant.4 row m) (sym (sym (m _) ∙ h)),
            l.invariant.5,
          )
    ]

pub returns-then-entries-at : goal.returns-then-entries-at
returns-then-entries-at c =
    let a = c.args in
    let l = c.parameters in
    let table = a.entries.table.now in
    let count = a.entries.count in
    λ row m.
    let left = l.invariant.4 row m in
    record {
      again = left.again ∙ R.none_again row table count l.at c.if-entries-at.true;
      right = left.right ∙ R.all_right row table count l.at c.if-entries-at.true;
      counted = omega (arith, left.many, R.none_left row table count l.at c.if-entries-at.true);
      noted = N.all_noted a.names.now table l.seen l.at l.invariant.3 l.invariant.1 c.if-entries-at.true row m;
    }

pub returns-then-key-from : goal.returns-then-key-from
returns-then-key-from c =
    let a = c.args in
    let l = c.parameters in
    let table = a.entries.table.now in
    let h = sym c.has.ensures ∙ c.if-has.true in
    λ row m o. absurd (R.refused_then row table a.entries.count l.at c.if-entries-at.false c.key_at-key.ensures (l.invariant.4 row m).again (sym (sym (m _) ∙ h)) (R.not_digits _ (λ e. omega arith)) (N.occurred_before a.names.now table l.seen l.at l.invariant.3 _ (set_there l.seen _ c.if-noted-bit-eq1.true)) o)

pub returns-then-missized : goal.returns-then-missized
returns-then-missized c =
    let a = c.args in
    let l = c.parameters in
    let h = sym c.has.ensures ∙ c.if-has.true in
    λ row m _. R.wrong row a.entries.table.now a.entries.count l.at c.if-entries-at.false c.key_at-key.ensures (l.invariant.4 row m) (sym (sym (m _) ∙ h)) (not-true _ (ap (λ n. not (allows (sizes c.key_at-key.result) n)) (sym c.size_at.ensures) ∙ sym c.missized.ensures ∙ c.if-missized.true))
