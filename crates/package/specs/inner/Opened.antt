-- What the private functions of the layout answer.
use Rattle.std.specs.Prelude.{ℕ, length, Result}
use Rattle.element.specs.declared.refusal.Refusal as F
use Rattle.element.specs.Octets.{Octets}
use Rattle.element.specs.Answer.{Answer, accepted, ◌>>=◌}
use Rattle.element.specs.Told.{told}
use Rattle.component.specs.Told.{span_said}
use Rattle.package.specs.declared.Opening as O
use Rattle.package.specs.Layout.{Opening, all_from}

abbrev pub found : O.Opening → Opening
found o = record { ids = span_said o.ids; sequence = o.sequence; first = o.first }

abbrev pub opening_in : Result O.Opening F.Refusal → Answer Opening
opening_in r = told found r

-- how many components there are
unfoldable pub counted : Octets → (first : ℕ) → Answer ℕ
counted s first = all_from s first >>= λ xs. accepted (length xs)
