-- Parts of a list of octets: how long one is, and that octets are in it.
use Prim.Native.Nat.{ℕ, ◌+◌, ◌-◌, ◌<◌, ◌≤◌}
use mathlib.Core.Path.{◌≡◌}
use mathlib.Core.List.{◌++◌}
use lib.ListN.{length, drop, get_or, length-take, length-drop, get_or-eq_default}
use lib.Seq.{take_all, take-append_seam, get_or-take, get_or-drop}
use native.Mathlib.Decide.{dec_lt}
use native.Mathlib.Omega.{arith}
use Rattle.element.specs.Octets.{Octets, AreOctets, between}

module _ (s : Octets) where
  pub length_between : (a : ℕ) {b : ℕ} → b ≤ length s → length (between a b s) ≡ b - a
  length_between a h = simp (length-take, length-drop) (omega arith)

  pub to_end : (a : ℕ) → between a (length s) s ≡ drop a s
  to_end a = take_all (length s - a) (drop a s) (simp length-drop (omega arith))

  pub octets_between : AreOctets s → (a b : ℕ) → AreOctets (between a b s)
  octets_between o a b i = go (dec_lt i (b - a))
    where
      go : Dec (i < b - a) → get_or (between a b s) i 0 < 256
      go (yes h) = rw (get_or-take, get_or-drop) (o (a + i))
      go (no h) = rw (get_or-eq_default (between a b s) 0 {n = i} (simp length-take (omega arith))) (omega arith)

pub octets_before : (a b : Octets) → AreOctets (a ++ b) → AreOctets a
octets_before a b o =
    let e : length a - 0 ≡ length a = omega arith in
    rw (e, take-append_seam) at (octets_between (a ++ b) o 0 (length a))
