-- A part of the component: it fits when start plus size is at most the count of octets, also for no octets.
use Rattle.std.specs.Prelude.{ℕ, ◌+◌, Bool, [], length, take, drop, leb}
use Rattle.element.specs.Octets.{Octets, if}

unfoldable pub fits : Octets → (start size : ℕ) → Bool
fits s start size = leb (start + size) (length s)

unfoldable pub part_of : Octets → (start size : ℕ) → Octets
part_of s start size = if (fits s start size) (take size (drop start s)) []
