-- `package::read` meets its contract.
use Rattle.package.specs.Reading.{reading_into}
use Rattle.package.proofs.reading.read.Goals as goal

pub returns : goal.returns
unfolding reading_into
returns c = let r = c.read_into-answer.ensures in (r.0, r.2, r.3, r.1)
