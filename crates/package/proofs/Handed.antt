-- A fault of the layout, in place of the component's own.
use Prim.Native.Nat.{ℕ}
use mathlib.Core.Path.{◌≡◌}
use native.Mathlib.Omega.{arith}
use Rattle.element.specs.Answer.{Answer, accepted, refused}
use Rattle.package.specs.Layout.{layout_fault}

-- a fault's number is all that is lost
pub faultless : {A : Type 0} (a : Answer A) {x : A} → layout_fault a ≡ accepted x → a ≡ accepted x
faultless (accepted y) e = e
faultless (refused n d) e = let z : ◌≡◌ {A = ℕ} 0 1 = cc in absurd (omega arith)
