-- `operation::weigh` meets its contract: of what `weigh_sizes` says the octets of the whole, and its refusals.
use Rattle.std.proofs.lemmas.Result.{err_from_is_err_and}
use Rattle.operation.proofs.Writer.{whole_weighed, whole_refused}
use Rattle.operation.proofs.weigh.Goals as goal

pub returns-in_err-sizes : goal.returns-in_err-sizes
returns-in_err-sizes c =
    let p = err_from_is_err_and c.from_residual.result c.from_residual.ensures.1 in
    rw (p.1, p.2) (whole_refused _ _ _ _ _ _ c.in_err-sizes.ensures)

pub returns : goal.returns
returns c = whole_weighed _ _ _ _ _ _ c.in_ok-sizes.ensures
