-- `package::read_rest` ends, by how many components are left.
use Rattle.package.proofs.reading.+read_rest.Given as goal

abbrev pub decreases-read_rest : goal.decreases-read_rest
decreases-read_rest l = l.left
