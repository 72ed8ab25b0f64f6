-- `operation::summarize` meets its contract: what `read_from` says is packed, and its counts fit.
use native.Mathlib.Omega.{arith}
use lib.ListN.{length}
use Rattle.operation.proofs.Counts as counts
use Rattle.operation.proofs.summary.summarize.Goals as goal

pub shown-requires : goal.shown-requires
shown-requires c =
    let a = c.args in
    omega (arith, counts.read_at a.octets.now a.specifier (length a.table.now) (λ i. (c.shared_slice_known-1.given i).fits) a.from c.in-Ok.ensures.0)
