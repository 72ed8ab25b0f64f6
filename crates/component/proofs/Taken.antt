-- An answer taken apart, step by step, as `do` goes.
use Prim.Native.Nat.{ℕ}
use mathlib.Core.Path.{◌≡◌, refl}
use mathlib.Core.Bool.{Bool, true, false}
use native.Mathlib.Omega.{arith}
use Rattle.element.specs.Answer.{Answer, accepted, refused, ◌>>=◌, ◌>>◌, check}

module _ {A : Type 0} {y : A} where
  pub taken : {B : Type 0} (a : Answer B) {f : B → Answer A} → (a >>= f) ≡ accepted y → (x : B) × (a ≡ accepted x) × (f x ≡ accepted y)
  taken (accepted x) e = (x, refl, e)
  taken (refused n d) e = let z : ◌≡◌ {A = ℕ} 0 1 = cc in absurd (omega arith)

  pub passed : (t : Bool) (n d : ℕ) {r : Answer A} → (check t n d >> r) ≡ accepted y → (t ≡ true) × (r ≡ accepted y)
  passed true n d e = (refl, e)
  passed false n d e = let z : ◌≡◌ {A = ℕ} 0 1 = cc in absurd (omega arith)

-- a refusal of what a value is turned into is the answer's own
pub refused_in : {A B : Type 0} (a : Answer A) (f : A → B) {n d : ℕ} → (a >>= λ x. accepted (f x)) ≡ refused n d → a ≡ refused n d
refused_in (accepted x) f e = let z : ◌≡◌ {A = ℕ} 0 1 = cc in absurd (omega arith)
refused_in (refused n d) f e = cc

pub stopped : {A B C : Type 0} (a : Answer A) (f : A → B) (g : A → Answer C) {n d : ℕ} → (a >>= λ x. accepted (f x)) ≡ refused n d → (a >>= g) ≡ refused n d
stopped a f g e = rw (refused_in a f e)
