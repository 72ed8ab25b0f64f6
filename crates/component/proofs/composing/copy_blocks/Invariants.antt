-- `component::copy_blocks` meets its contract.
use Prim.Native.Nat.{◌-◌, ◌≤◌}
use mathlib.Core.Path.{◌≡◌}
use lib.ListN.{length, take, drop}
use Rattle.element.specs.Field.{put}
use Rattle.component.proofs.composing.copy_blocks.Given as goal

abbrev pub invariant-blocks-2 : goal.invariant-blocks-2
invariant-blocks-2 l =
    (l.i ≤ l.size) × (length l.out ≡ length l.initial.out) × (l.out ≡ put (take l.i (drop l.start l.source)) l.at l.initial.out)

abbrev pub decreases-blocks-2 : goal.decreases-blocks-2
decreases-blocks-2 l = l.size - l.i
