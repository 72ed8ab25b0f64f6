-- Octets that were written are so few that their count has 32 bits.
use Prim.Native.Nat.{ℕ, ◌<◌, ◌≤◌}
use mathlib.Core.Path.{◌≡◌}
use native.Mathlib.Omega.{arith}
use Rattle.std.specs.Prelude.{Result, Ok, Err, IfOk}
use Rattle.element.specs.declared.refusal.Refusal as F
use Rattle.element.specs.Answer.{Answer, accepted}
use Rattle.operation.specs.Told.{written_in}

pub small : (r : Result ℕ F.Refusal) {a : Answer ℕ} → written_in r ≡ a → ((n : ℕ) → accepted n ≡ a → n ≤ 4096) → IfOk r (λ n. n < 4294967296)
small (Ok n) e f = omega (arith, f n e)
small (Err r) e f = tt
