-- A lent output, where octets are written to its start or the call is refused.
use Rattle.std.specs.Prelude.{ℕ, ◌++◌, length, drop}
use Rattle.element.specs.Octets.{Octets}
use Rattle.element.specs.Answer.{Answer, accepted, refused, ◌>>=◌}

-- how many octets were written
unfoldable pub written : Answer Octets → Answer ℕ
written a = do
  s ← a
  accepted (length s)

-- only the leading octets change, and on a refusal none
unfoldable pub output_after : Octets → Answer Octets → Octets
output_after out (accepted s) = s ++ drop (length s) out
output_after out (refused n d) = out
