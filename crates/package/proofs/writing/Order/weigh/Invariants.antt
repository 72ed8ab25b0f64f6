-- The invariant: what is left to be weighed is what is weighed of all, and what was weighed is noted.
use Prim.Native.Nat.{◌*◌, ◌≤◌}
use Rattle.package.proofs.Weighing.{Going}
use Rattle.package.proofs.writing.Order.weigh.Given as goal

abbrev pub invariant-loop-index : goal.invariant-loop-index
invariant-loop-index l =
    (l.sum ≤ 4096 * l.index) × Going l.self.components.now l.self.specifiers l.self.table.now l.self.source.now l.self.kind l.index l.wrong l.sum l.sets
