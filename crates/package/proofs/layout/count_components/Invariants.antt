-- `package::count_components` meets its contract. The invariant: what is counted so far, and what is left to be counted.
use Prim.Native.Nat.{◌-◌, ◌≤◌}
use lib.ListN.{length}
use Rattle.package.proofs.Counting.{Counted}
use Rattle.package.proofs.layout.count_components.Given as goal

abbrev pub invariant-loop-at : goal.invariant-loop-at
invariant-loop-at l = (l.at ≤ length l.octets) × (l.count ≤ l.at) × Counted l.octets l.first l.at l.count

abbrev pub decreases-loop-at : goal.decreases-loop-at
decreases-loop-at l = length l.octets - l.at
