-- The octets counted: what an element and a body come to.
use Prim.Native.Nat.{ℕ, ◌+◌, ◌≤◌}
use mathlib.Core.Path.{◌≡◌, refl}
use borrow.Author.Tests.{lt-ltb}
use native.Mathlib.Omega.{arith}
use Rattle.element.specs.Length.{field_size}
use Rattle.component.specs.Types.{coding_of}
use Rattle.component.specs.Needed.{element_size, coding_size, body_size}

pub element_size_lem : (head body : ℕ) → head + field_size body + body ≡ element_size head body
unfolding element_size
element_size_lem head body = refl

-- an ID has at most two octets, so its length field is one
pub body_size_lem : (kind id set : ℕ) → id ≤ 2 → 2 + id + coding_size (coding_of kind) + element_size 1 set ≡ body_size kind id set
unfolding body_size element_size field_size
body_size_lem kind id set few = simp (lt-ltb id 128 (omega arith)) (omega arith)
