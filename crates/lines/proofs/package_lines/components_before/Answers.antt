-- `lines::package_lines::components_before` meets its contract.
use Rattle.std.proofs.Common.{arith, rules}
use Rattle.lines.proofs.Parcels.{begins, goes_on, ends}
use Rattle.lines.proofs.package_lines.components_before.Goals as goal

pub loop-i-init : goal.loop-i-init
loop-i-init c = (search rules, search rules, begins _ _ _)

pub loop-i-preserved : goal.loop-i-preserved
loop-i-preserved c =
    let loop = c.loop-i in
    (search rules, omega arith, goes_on _ _ _ loop.invariant.2 (omega arith) (omega arith) c.component_before-start.ensures.0)

pub returns : goal.returns
returns c = (ends _ _ _ c.loop-i.invariant.2 (omega arith), omega arith)
