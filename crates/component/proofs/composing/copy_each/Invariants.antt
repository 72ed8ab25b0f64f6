-- `component::copy_each` meets its contract.
use Prim.Native.Nat.{◌-◌, ◌≤◌}
use mathlib.Core.Path.{◌≡◌}
use lib.ListN.{length}
use Rattle.component.proofs.Putting.{copied}
use Rattle.component.proofs.composing.copy_each.Given as goal

abbrev pub invariant-octets : goal.invariant-octets
invariant-octets l = (l.i ≤ l.size) × (length l.out ≡ length l.initial.out) × (l.out ≡ copied l.source l.start l.at l.initial.out l.i)

abbrev pub decreases-octets : goal.decreases-octets
decreases-octets l = l.size - l.i
