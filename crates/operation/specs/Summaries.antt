-- A component that is accepted, told by one number.
use Rattle.std.specs.Prelude.{◌≡◌, ℕ}
use Rattle.element.specs.Answer.{Answer, accepted}
use Rattle.operation.specs.Caller.{Told}
use Rattle.operation.specs.Packed.{packed_reading}

-- the number is that of what is told
pub record Summarizes (summary : ℕ) (a : Answer Told) : Type 0 where
  pub told : Told
  pub is : a ≡ accepted told
  pub packed : summary ≡ packed_reading (accepted told)
