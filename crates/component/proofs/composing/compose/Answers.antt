-- `component::compose` meets its contract.
use native.Mathlib.Omega.{arith}
use Rattle.std.proofs.lemmas.Result.{err_from_is_err_and}
use Rattle.component.proofs.Outcome.{found, refusal, short, no_room, head_ready, set_ready, all_put}
use Rattle.component.proofs.composing.compose.Goals as goal

pub returns-in_err-sizes : goal.returns-in_err-sizes
returns-in_err-sizes c =
    let p = err_from_is_err_and c.from_residual.result c.from_residual.ensures.1 in
    rw (p.1, p.2) (refusal _ _ _ _ _ _ _ c.in_err-sizes.ensures)

pub overflow_cast-sizes : goal.overflow_cast-sizes
overflow_cast-sizes c = omega (arith, short _ _ _ _ _ (found _ _ _ _ _ c.in_ok-sizes.ensures))

pub returns-then-out-sizes : goal.returns-then-out-sizes
returns-then-out-sizes c = rw c.at.ensures (no_room _ _ _ _ _ (found _ _ _ _ _ c.in_ok-sizes.ensures) _ _ c.if-out-sizes.true)

pub put_head-parameters-requires : goal.put_head-parameters-requires
put_head-parameters-requires c =
    head_ready _ _ _ _ _ (found _ _ _ _ _ c.in_ok-sizes.ensures) _ c.args.out.now c.if-out-sizes.false

pub put_parameters-requires : goal.put_parameters-requires
put_parameters-requires c =
    set_ready _ _ _ _ _ (found _ _ _ _ _ c.in_ok-sizes.ensures) _ _ c.if-out-sizes.false c.put_head-parameters.ensures c.put_head-parameters.auto.out

pub returns : goal.returns
returns c =
    all_put _ _ _ _ _ (found _ _ _ _ _ c.in_ok-sizes.ensures) _ _ c.if-out-sizes.false c.put_head-parameters.ensures c.put_parameters.ensures
