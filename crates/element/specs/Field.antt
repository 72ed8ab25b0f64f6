-- Octets put into a lent output: at a position and nowhere else, or, where there is no room, nothing.
use Rattle.std.specs.Prelude.{ℕ, ◌+◌, ◌++◌, length, take, drop, leb}
use Rattle.element.specs.Octets.{Octets, if}

-- the octets of `field` in place of those that stand from `at` on
unfoldable pub put : (field : Octets) (at : ℕ) (out : Octets) → Octets
put field at out = take at out ++ field ++ drop (at + length field) out

unfoldable pub output_after : (field : Octets) (at : ℕ) (out : Octets) → Octets
output_after field at out = if (leb (at + length field) (length out)) (put field at out) out
