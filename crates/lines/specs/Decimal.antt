-- A number in decimal, in ASCII.
use Rattle.std.specs.Prelude.{ℕ, zero, suc, ◌+◌, ◌/◌, ◌%◌, [], ◌∷◌, ◌++◌, nat_lt}
use Rattle.element.specs.Octets.{Octets, if}

-- the digits of `n`, the last `most` of them where it has more
unfoldable pub digits : (most n : ℕ) → Octets
digits zero n = []
digits (suc k) n = if (nat_lt n 10) ((48 + n) ∷ []) (digits k (n / 10) ++ (48 + n % 10) ∷ [])

-- no number of 64 bits has more than twenty
unfoldable pub decimal : ℕ → Octets
decimal n = digits 20 n
