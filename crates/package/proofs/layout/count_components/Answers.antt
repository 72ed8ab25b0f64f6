-- `package::count_components` meets its contract.
use mathlib.Core.Path.{sym}
use native.Mathlib.Omega.{arith}
use Rattle.std.proofs.lemmas.Result.{err_from_is_err_and}
use Rattle.package.proofs.Counting.{begins, ends, goes_on, stops}
use Rattle.package.proofs.layout.count_components.Goals as goal

pub loop-at-init : goal.loop-at-init
loop-at-init c = (c.requires.0, omega arith, begins _ _)

pub loop-at-preserved : goal.loop-at-preserved
loop-at-preserved c =
    let l = c.loop-at in
    let (behind, ordered, inside) = c.in_ok-component.ensures.inside in
    (inside, omega (arith, l.invariant.1), goes_on _ _ l.invariant.2 c.loop-at-test.true (omega arith) (sym c.in_ok-component.ensures.answer))

pub returns-in_err-component : goal.returns-in_err-component
returns-in_err-component c =
    let p = err_from_is_err_and c.from_residual.result c.from_residual.ensures.1 in
    rw (p.1, p.2) (sym (stops _ _ c.loop-at.invariant.2 c.loop-at-test.true (sym c.in_err-component.ensures.answer)))

pub returns : goal.returns
returns c = sym (ends _ _ c.loop-at.invariant.2 c.loop-at-test.false)
