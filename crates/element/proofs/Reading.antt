-- What the laws of both fields share: a choice by a test, the first octets of a list, octets one by one.
use Prim.Native.Nat.{ℕ, zero, suc, ◌<◌, ◌≤◌}
use mathlib.Core.Path.{◌≡◌, refl}
use mathlib.Core.Bool.{Bool, true, false}
use mathlib.Core.List.{[], ◌∷◌}
use lib.ListN.{length, take, get_or}
use lib.Seq.{take-suc}
use lib.Dec.{ltb, leb, eqb}
use borrow.Author.Tests.{ltb-true, ltb-false, leb-true, leb-false, eqb-true, eqb-false}
use native.Mathlib.Omega.{arith}
use Rattle.element.specs.Octets.{Octets, AreOctets, if}

-- what holds of both branches holds of the choice, by `<`, `≤` or `≡`
module _ {A : Type 0} (P : A → Type 0) where
  choose : (t : Bool) {a b : A} → (t ≡ true → P a) → (t ≡ false → P b) → P (if t a b)
  choose true y n = y refl
  choose false y n = n refl

  pub less : {x y : ℕ} {a b : A} → (x < y → P a) → (y ≤ x → P b) → P (if (ltb x y) a b)
  less {x} {y} p q = choose (ltb x y) (λ e. p (ltb-true x y e)) (λ e. q (ltb-false x y e))

  pub most : {x y : ℕ} {a b : A} → (x ≤ y → P a) → (y < x → P b) → P (if (leb x y) a b)
  most {x} {y} p q = choose (leb x y) (λ e. p (leb-true x y e)) (λ e. q (leb-false x y e))

  pub same : {x y : ℕ} {a b : A} → (x ≡ y → P a) → ((x ≡ y → ⊥) → P b) → P (if (eqb x y) a b)
  same {x} {y} p q = choose (eqb x y) (λ e. p (eqb-true x y e)) (λ e. q (eqb-false x y e))

module _ (s : Octets) where
  pub first : 0 < length s → take 1 s ≡ get_or s 0 0 ∷ []
  first h = take-suc s 0 0 h

  pub first_two : 1 < length s → take 2 s ≡ get_or s 0 0 ∷ get_or s 1 0 ∷ []
  first_two h = rw (take-suc s 1 0, first (omega arith))

  pub first_three : 2 < length s → take 3 s ≡ get_or s 0 0 ∷ get_or s 1 0 ∷ get_or s 2 0 ∷ []
  first_three h = rw (take-suc s 2 0, first_two (omega arith))

-- each element is an octet
abbrev pub Small : Octets → Type 0
Small [] = Unit
Small (a ∷ s) = (a < 256) × Small s

pub small : (s : Octets) → Small s → AreOctets s
small [] h i = omega arith
small (a ∷ s) h zero = h.0
small (a ∷ s) h (suc i) = small s h.1 i
