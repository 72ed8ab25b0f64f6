-- `operation::last_of` meets its contract. The invariant: the last entry of the whole run is that of the entries that are left, from the last so far.
use mathlib.Core.Path.{refl, sym, ap, ◌∙◌}
use Rattle.std.proofs.Common.{arith}
use Rattle.operation.specs.Row.{one_of}
use Rattle.operation.specs.Judge.{last_mark}
use Rattle.operation.proofs.Entries.{all, is_one, is_other, is_neither, last_known, last_here, last_other}
use Rattle.operation.proofs.engine.last_of.Goals as goal
use Rattle.operation.proofs.engine.last_of.Goals.{then-key-one, then-key-one-via-then-key-one, then-key-one-via-else-key-one+then-key-other, else-key-one+else-key-other}

pub loop-entry-init : goal.loop-entry-init
loop-entry-init c = ap (last_mark _ 0) (all _ _)

pub loop-entry-preserved : goal.loop-entry-preserved
loop-entry-preserved c =
    let l = c.loop-entry in
    let line = one_of c.args.one c.args.other in
    let k = c.key_at-key.ensures in
    l.invariant
    ∙ elim c.if-key-one.branch [
      | then-key-one w ↦ rw w.last-is (sym (last_here _ _ _ line _ (omega arith) k (elim w.then-key-one.branch [
        | then-key-one-via-then-key-one v ↦ is_one _ _ _ v.if-key-one.true
        | then-key-one-via-else-key-one+then-key-other v ↦ is_other _ _ _ v.if-key-one.false v.if-key-other.true
      ]) refl))
      | else-key-one+else-key-other w ↦ rw w.last-is (sym (last_other _ _ _ line _ (omega arith) k (is_neither _ _ _ w.if-key-one.false w.if-key-other.false) refl))
    ]

pub returns : goal.returns
returns c = last_known _ _ _ _ _ (omega arith) ∙ sym c.loop-entry.invariant
