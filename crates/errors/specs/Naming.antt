-- The name of an error code for a lent output: it is refused where there is no room for all of it.
use Rattle.std.specs.Prelude.{ℕ, Result, length, leb}
use Rattle.element.specs.declared.refusal.Refusal as F
use Rattle.element.specs.Octets.{Octets}
use Rattle.element.specs.Answer.{Answer, accepted, check, ◌>>◌}
use Rattle.element.specs.Told.{told}
use Rattle.errors.specs.Table6.{name_of}

unfoldable pub naming : (code room : ℕ) → Answer Octets
naming code room = do
  check (leb (length (name_of code)) room) 17 (length (name_of code))
  accepted (name_of code)

-- what an outcome tells
abbrev pub named_in : Result ℕ F.Refusal → Answer ℕ
named_in r = told (λ n. n) r
