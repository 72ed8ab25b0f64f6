-- The number of an identifier behind an octet whose low five bits are all ones: each way out of `numbered` as one law.
-- Assumes nothing.
use Prim.Native.Nat.{ℕ, ◌+◌, ◌*◌, ◌-◌, ◌<◌, ◌≤◌}
use mathlib.Core.Path.{◌≡◌}
use lib.ListN.{length, get_or}
use borrow.Author.Tests.{le-leb, lt-leb, le-ltb, lt-ltb, ne_eqb}
use native.Mathlib.Omega.{arith}
use Rattle.std.specs.Prelude.{None}
use Rattle.element.specs.Octets.{Octets}
use Rattle.element.specs.Decoded.{an_identifier, numbered}

-- behind the ones, by how many octets there are
module _ (form : ℕ) (s : Octets) where
  pub none_behind : length s ≤ 1 → None ≡ numbered form s
  unfolding numbered
  none_behind h = simp (le-leb (length s) 1)

  module _ (b : ℕ) (e : b ≡ get_or s 1 0) (some : 1 < length s) where
    pub below_31 : b < 31 → None ≡ numbered form s
    unfolding numbered
    below_31 h = simp (lt-leb (length s) 1, ← e, lt-ltb b 128 (omega arith), lt-ltb b 31)

    pub one_behind : 31 ≤ b → b < 128 → an_identifier b form 2 ≡ numbered form s
    unfolding numbered
    one_behind h k = simp (lt-leb (length s) 1, ← e, lt-ltb b 128, le-ltb b 31)

    pub leading_80 : b ≡ 128 → None ≡ numbered form s
    unfolding numbered
    leading_80 h = simp (lt-leb (length s) 1, ← e, h)

    module _ (h : 128 ≤ b) (n : b ≡ 128 → ⊥) where
      pub cut_behind : length s ≤ 2 → None ≡ numbered form s
      unfolding numbered
      cut_behind k = simp (lt-leb (length s) 1, ← e, le-ltb b 128, ne_eqb b 128, le-leb (length s) 2)

      module _ (d : ℕ) (f : d ≡ get_or s 2 0) (more : 2 < length s) where
        pub two_behind : d < 128 → an_identifier ((b - 128) * 128 + d) form 3 ≡ numbered form s
        unfolding numbered
        two_behind k = simp (lt-leb (length s) 1, ← e, le-ltb b 128, ne_eqb b 128, lt-leb (length s) 2, ← f, lt-ltb d 128)

        pub longer_run : 128 ≤ d → None ≡ numbered form s
        unfolding numbered
        longer_run k = simp (lt-leb (length s) 1, ← e, le-ltb b 128, ne_eqb b 128, lt-leb (length s) 2, ← f, le-ltb d 128)
