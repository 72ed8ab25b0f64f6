-- The invariant: the octets that were copied.
use Prim.Native.Nat.{◌+◌, ◌≤◌}
use mathlib.Core.Path.{◌≡◌}
use lib.ListN.{length}
use Rattle.component.proofs.Putting.{copied}
use Rattle.package.proofs.writing.put_ids.Given as goal

abbrev pub invariant-loop-i : goal.invariant-loop-i
invariant-loop-i l = (2 + length l.ids ≤ length l.out) × (l.out ≡ copied l.ids 0 2 l.initial.out l.i)
