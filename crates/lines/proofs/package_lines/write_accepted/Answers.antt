-- `lines::package_lines::write_accepted` meets its contract.
use Rattle.lines.proofs.Putting.{named}
use Rattle.lines.proofs.Fronts.{then, alone}
use Rattle.lines.proofs.package_lines.write_accepted.Goals as goal

pub returns : goal.returns
returns c =
    let said = rw c.from.ensures at c.accepted-line.ensures in
    let line = rw said at c.before-first.ensures.0 in
    named _ _ (alone (then c.components_before-behind.ensures.0 line)) c.put.ensures
