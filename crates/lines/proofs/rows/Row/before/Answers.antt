-- `lines::rows::Row::before` meets its contract.
use Rattle.std.proofs.Common.{append_assoc, rules}
use Rattle.lines.specs.Line.{row}
use Rattle.lines.proofs.Fronts.{then}
use Rattle.lines.proofs.rows.Row.before.Goals as goal

pub returns : goal.returns
unfolding row
returns c =
    let line =
    then (then (then (then c.number_before-fifth.ensures.0 c.number_before-fourth.ensures.0) c.number_before-third.ensures.0)
    c.number_before-second.ensures.0) c.number_before.ensures.0 in
    (simp append_assoc line, search rules)
