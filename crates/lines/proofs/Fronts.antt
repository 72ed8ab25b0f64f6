-- The laws of octets put down in front of others.
use Rattle.std.proofs.Common.{◌≡◌, ℕ, ◌+◌, ◌-◌, ◌<◌, ◌≤◌, [], ◌∷◌, ◌++◌, length, take, drop, set, sym, refl, ◌∙◌, append_assoc, add-one, arith, length-append, length-take-le, take_at, drop_at}
use lib.Seq.{set_split}
use Rattle.element.specs.Octets.{Octets}
use Rattle.lines.specs.Line.{Front}

pub none : {at : ℕ} {text : Octets} → Front [] at text at text
none = record { place = omega arith; tail = refl }

pub one : (x at : ℕ) (text : Octets) → 0 < at → at ≤ length text → Front (x ∷ []) at text (at - 1) (set text (at - 1) x)
one x at text h k =
    let next : at ≡ at - 1 + 1 = omega arith in
    record {
      place = omega arith;
      tail =
          rw (set_split text (at - 1) x (omega arith), drop_at (take (at - 1) text) _ (at - 1) (length-take-le (at - 1) text (omega arith)), ← add-one (at - 1), ← next) refl;
    }

pub then : {f g : Octets} {at mid start : ℕ} {text middle after : Octets} →
    Front f at text mid middle → Front g mid middle start after → Front (g ++ f) at text start after
then {f} {g} p q = record { place = omega (arith, length-append g f, p.place, q.place); tail = q.tail ∙ rw p.tail (sym (append_assoc g f _)) }

pub alone : {octets : Octets} {at start : ℕ} {text after : Octets} → Front octets at text start after → take (at - start) (drop start after) ≡ octets
alone {octets} {at} {start} p = rw p.tail (take_at octets _ (at - start) (omega (arith, p.place)))
