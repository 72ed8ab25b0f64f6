-- No second outcome fits what `put_name` promises: what an outcome tells leads back to it.
use Prim.Native.Nat.{ℕ}
use mathlib.Core.Path.{◌≡◌, refl}
use Rattle.std.specs.Prelude.{Result}
use Rattle.element.specs.declared.refusal.Refusal as F
use Rattle.element.specs.Answer.{Answer}
use Rattle.element.proofs.Outcomes.{one_answer}
use Rattle.errors.specs.Naming.{named_in}

pub one_name : {x y : Result ℕ F.Refusal} {told : Answer ℕ} → named_in x ≡ told → named_in y ≡ told → x ≡ y
one_name = one_answer (λ n. n) (λ n. n) (λ _. refl)
