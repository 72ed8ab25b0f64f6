-- `lines::package_lines::component_before` meets its contract.
use Rattle.std.proofs.Common.{arith}
use Rattle.lines.specs.Line.{line_of}
use Rattle.lines.specs.Packages.{inside_line}
use Rattle.lines.proofs.Fronts as fronts
use Rattle.lines.proofs.package_lines.component_before.Goals as goal

pub returns : goal.returns
unfolding inside_line line_of
returns c =
    let said = rw (c.from.ensures, c.saturating_sub-other.ensures) at c.accepted-line.ensures in
    let line = rw said at c.before-start.ensures.0 in
    (fronts.then line (fronts.one _ _ _ (omega arith) (omega arith)), omega arith)
