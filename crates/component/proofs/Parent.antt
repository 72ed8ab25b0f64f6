-- A step sees its parent alone: no octet behind the parent's end changes what it finds.
use Prim.Native.Nat.{ℕ, ◌-◌, ◌≤◌}
use mathlib.Core.Path.{◌≡◌}
use mathlib.Core.List.{◌++◌}
use lib.ListN.{length, drop, length-drop}
use lib.Seq.{drop-append-le, take-append-le}
use native.Mathlib.Omega.{arith}
use Rattle.element.specs.Octets.{Octets, between}
use Rattle.component.specs.Layout.{contents}

-- the part that is handed on is the same, whatever stands behind the parent
pub same_part : (parent behind other : Octets) (from : ℕ) → from ≤ length parent →
    between from (length parent) (parent ++ behind) ≡ between from (length parent) (parent ++ other)
same_part parent behind other from h =
    rw (
      drop-append-le from parent behind h,
      drop-append-le from parent other h,
      take-append-le (length parent - from) (drop from parent) behind (omega (arith, length-drop from parent)),
      take-append-le (length parent - from) (drop from parent) other (omega (arith, length-drop from parent)),
    )

pub contents_of_the_parent : (parent behind other : Octets) (at from : ℕ) → from ≤ length parent →
    contents (parent ++ behind) at from (length parent) ≡ contents (parent ++ other) at from (length parent)
unfolding contents
contents_of_the_parent parent behind other at from h = rw (same_part parent behind other from h)
