-- `component::set_size` meets its contract.
use Prim.Native.Nat.{◌*◌, ◌≤◌}
use mathlib.Core.Path.{◌≡◌}
use Rattle.component.specs.Composing.{entries_from}
use Rattle.component.specs.inner.Emitting.{sized}
use Rattle.component.proofs.Counting.{left}
use Rattle.component.proofs.composing.set_size.Given as goal

abbrev pub invariant-loop-i : goal.invariant-loop-i
invariant-loop-i l =
    (l.sum ≤ 65542 * l.i) × (sized (entries_from 0 l.count l.table l.source) ≡ left l.count l.table l.source l.i l.sum)
