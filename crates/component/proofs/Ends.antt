-- What an answer ends in: a value of which P holds, or a refusal of which Q holds; followed step by step, as `do` goes.
use Prim.Native.Nat.{ℕ, ◌<◌, ◌≤◌}
use mathlib.Core.Path.{◌≡◌, refl}
use mathlib.Core.Bool.{Bool, true, false}
use lib.Dec.{ltb, leb, eqb}
use borrow.Author.Tests.{ltb-true, ltb-false, leb-true, leb-false, eqb-true, eqb-false}
use native.Mathlib.Omega.{arith}
use Rattle.element.specs.Answer.{Answer, accepted, refused, ◌>>=◌, ◌>>◌, check}

pub data Ends {A : Type 0} (P : A → Type 0) (Q : ℕ → ℕ → Type 0) : Answer A → Type 0 where
  gives : {a : A} → P a → Ends P Q (accepted a)
  stops : {n d : ℕ} → Q n d → Ends P Q (refused n d)

module _ {A : Type 0} {P : A → Type 0} {Q : ℕ → ℕ → Type 0} where
  pub given : {r : Answer A} {x : A} → Ends P Q r → r ≡ accepted x → P x
  given {x = x} (gives {a} p) e = let f : a ≡ x = cc in rw f at p
  given (stops q) e = let z : ◌≡◌ {A = ℕ} 0 1 = cc in absurd (omega arith)

  pub stopped : {r : Answer A} {m c : ℕ} → Ends P Q r → r ≡ refused m c → Q m c
  stopped (gives p) e = let z : ◌≡◌ {A = ℕ} 0 1 = cc in absurd (omega arith)
  stopped {m = m} {c = c} (stops {n} {d} q) e =
      let f : n ≡ m = cc in
      let g : d ≡ c = cc in
      rw (f, g) at q

  pub then : {B : Type 0} {R : B → Type 0} {r : Answer A} {f : A → Answer B} → Ends P Q r → ((x : A) → P x → Ends R Q (f x)) → Ends R Q (r >>= f)
  then (gives {a} p) k = k a p
  then (stops q) k = stops q

-- a test that the next step stands behind
module _ {A : Type 0} {P : A → Type 0} (Q : ℕ → ℕ → Type 0) where
  pub ask : (t : Bool) {n d : ℕ} {r : Answer A} → (t ≡ false → Q n d) → (t ≡ true → Ends P Q r) → Ends P Q (check t n d >> r)
  ask true q k = k refl
  ask false q k = stops (q refl)

  pub below : {x y n d : ℕ} {r : Answer A} → (y ≤ x → Q n d) → (x < y → Ends P Q r) → Ends P Q (check (ltb x y) n d >> r)
  below {x} {y} q k = ask (ltb x y) (λ e. q (ltb-false x y e)) (λ e. k (ltb-true x y e))

  pub at_most : {x y n d : ℕ} {r : Answer A} → (y < x → Q n d) → (x ≤ y → Ends P Q r) → Ends P Q (check (leb x y) n d >> r)
  at_most {x} {y} q k = ask (leb x y) (λ e. q (leb-false x y e)) (λ e. k (leb-true x y e))

  pub equal : {x y n d : ℕ} {r : Answer A} → ((x ≡ y → ⊥) → Q n d) → (x ≡ y → Ends P Q r) → Ends P Q (check (eqb x y) n d >> r)
  equal {x} {y} q k = ask (eqb x y) (λ e. q (eqb-false x y e)) (λ e. k (eqb-true x y e))
