-- There is no other package reader and no other package writer that satisfies the demands.
use Rattle.package.specs.Model.{OnlyOne}
use Rattle.package.proofs.Reader.{one_reader}
use Rattle.package.proofs.Writer.{one_writer}

pub only_one : OnlyOne
unfolding OnlyOne
only_one r w d = (one_reader r w d.first d.second, one_writer r w d.first d.second)
