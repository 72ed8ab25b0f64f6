-- The invariant: what is left of the octets, behind those that are put down.
use Rattle.package.proofs.Laying.{Laying}
use Rattle.package.proofs.writing.Order.put_components.Given as goal

abbrev pub invariant-loop-index : goal.invariant-loop-index
invariant-loop-index l = Laying l.self.components.now l.self.specifiers l.self.table.now l.self.source.now l.initial.out l.index l.at l.out
