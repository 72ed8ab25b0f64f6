-- No second outcome fits a promise of the package reader: what its answer tells leads back to it.
use mathlib.Core.Path.{◌≡◌, refl}
use Rattle.std.specs.Prelude.{Result}
use Rattle.element.specs.declared.refusal.Refusal as F
use Rattle.element.specs.Answer.{Answer}
use Rattle.element.proofs.Outcomes.{one_answer}
use Rattle.package.specs.declared.Package as P
use Rattle.package.specs.Told.{Envelope, package_said, answer_in}

pub one_package : {x y : Result P.Package F.Refusal} {told : Answer Envelope} → answer_in x ≡ told → answer_in y ≡ told → x ≡ y
one_package = one_answer package_said (λ x. record { kind = x.kind; ids = x.ids; size = x.size; count = x.count }) (λ _. refl)
