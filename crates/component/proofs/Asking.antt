-- Steps of which nothing else is known: any answer, and any refusal.
use Prim.Native.Nat.{ℕ}
use mathlib.Core.Path.{◌≡◌, refl}
use Rattle.element.specs.Answer.{Answer, accepted, refused}
use Rattle.component.proofs.Ends.{Ends, gives, stops}

pub answered : (Q : ℕ → ℕ → Type 0) {A : Type 0} (a : Answer A) → ((n d : ℕ) → a ≡ refused n d → Q n d) → Ends (λ x. a ≡ accepted x) Q a
answered Q (accepted x) q = gives refl
answered Q (refused n d) q = stops (q n d refl)

abbrev pub Any : ℕ → ℕ → Type 0
Any n d = Unit

pub any : {A : Type 0} (a : Answer A) → Ends (λ x. a ≡ accepted x) Any a
any a = answered Any a λ _ _ _. tt
