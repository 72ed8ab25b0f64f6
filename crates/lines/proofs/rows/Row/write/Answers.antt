-- `lines::rows::Row::write` meets its contract.
use Rattle.lines.proofs.Putting.{named}
use Rattle.lines.proofs.Fronts.{alone}
use Rattle.lines.proofs.rows.Row.write.Goals as goal

pub returns : goal.returns
returns c =
    named _ _ (alone c.before-first.ensures.0) c.put.ensures
