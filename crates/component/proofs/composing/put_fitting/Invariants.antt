-- `component::put_fitting` meets its contract. The invariant: what is left of the octets, behind those that are put down.
use Prim.Native.Nat.{◌-◌, ◌≤◌}
use mathlib.Core.Path.{◌≡◌}
use lib.ListN.{length}
use Rattle.component.specs.Table.{held_from}
use Rattle.component.specs.inner.Emitting.{fitting}
use Rattle.component.proofs.Room.{rest}
use Rattle.component.proofs.Putting.{Left}
use Rattle.component.proofs.composing.put_fitting.Given as goal

abbrev pub invariant-loop-i : goal.invariant-loop-i
invariant-loop-i l =
    (length l.out ≡ length l.initial.out) × (l.next ≤ length l.initial.out)
    × Left (fitting l.source (length l.initial.out - l.at) (held_from 0 l.count l.table)) l.at l.initial.out (rest l.count l.table l.source (length l.initial.out - l.next) l.i) l.next l.out
