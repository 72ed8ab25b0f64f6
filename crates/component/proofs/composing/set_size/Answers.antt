-- `component::set_size` meets its contract.
use Prim.Native.Nat.{◌<◌}
use mathlib.Core.Path.{◌≡◌, sym, subst, ◌∙◌}
use native.Mathlib.Omega.{arith}
use Rattle.std.specs.Prelude.{Some, None}
use Rattle.component.specs.Table.{held}
use Rattle.component.specs.inner.Emitting.{size_in}
use Rattle.component.proofs.Room.{at_most, stands_with, stands_none}
use Rattle.component.proofs.Entries.{stands_true}
use Rattle.component.proofs.Counting.{begins, ends, goes_on, stops}
use Rattle.component.proofs.composing.set_size.Goals as goal

pub loop-i-init : goal.loop-i-init
loop-i-init c = (omega arith, begins _ _ _)

pub returns-in_default : goal.returns-in_default
returns-in_default c =
    let none = stands_none c.args.source.now _ (subst (λ e. None ≡ size_in c.args.source.now e) c.held.ensures.held c.in_default.ensures) in
    (rw c.at.ensures (stops _ _ _ _ _ c.loop-i-test.true none ∙ sym c.loop-i.invariant.1), tt)

pub overflow_add-sum : goal.overflow_add-sum
overflow_add-sum c =
    let (_, size) = stands_with c.args.source.now _ (subst (λ e. Some c.in-Some.size ≡ size_in c.args.source.now e) c.held.ensures.held c.in-Some.ensures) in
    omega (arith, size, c.loop-i.invariant.0, at_most (held c.args.table.now c.loop-i.i) (subst (λ e. e.size < 65536) c.held.ensures.held c.held.ensures.small.1), subst (λ e. e.size < 65536) c.held.ensures.held c.held.ensures.small.1)

pub loop-i-preserved : goal.loop-i-preserved
loop-i-preserved c =
    let (stands, size) = stands_with c.args.source.now _ (subst (λ e. Some c.in-Some.size ≡ size_in c.args.source.now e) c.held.ensures.held c.in-Some.ensures) in
    let short = subst (λ e. e.size < 65536) c.held.ensures.held c.held.ensures.small.1 in (
      omega (arith, size, at_most (held c.args.table.now c.loop-i.i) short, short, c.loop-i.invariant.0),
      c.loop-i.invariant.1 ∙ sym (goes_on _ _ _ _ _ c.loop-i-test.true (stands_true stands) size),
    )

pub returns : goal.returns
returns c = (ends _ _ _ _ _ c.loop-i-test.false ∙ sym c.loop-i.invariant.1, omega arith)
