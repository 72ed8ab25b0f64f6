-- The digits of a number spelt from the last to the first.
use Rattle.std.proofs.Common.{◌≡◌, ℕ, zero, suc, ◌+◌, ◌-◌, ◌/◌, ◌%◌, ◌^◌, ◌<◌, ◌≤◌, [], ◌∷◌, ◌++◌, length, set, sym, refl, ◌∙◌, append_assoc, append-nil, div-lt_iff_lt-mul, pow-suc, arith, length-set, le-ltb, lt-ltb}
use Rattle.element.specs.Octets.{Octets}
use Rattle.lines.specs.Decimal.{digits, decimal}
use Rattle.lines.specs.Line.{Front}
use Rattle.lines.proofs.Fronts as fronts

-- a number of several digits: its last one, and the others
record Several (most n : ℕ) : Type 0 where
  pub some : 2 ≤ most
  pub others : n / 10 < 10 ^ (most - 1)
  pub last : digits most n ≡ digits (most - 1) (n / 10) ++ (48 + n % 10) ∷ []

several : (most n : ℕ) → 9 < n → n < 10 ^ most → Several most n
unfolding digits
several zero n h k = absurd (omega arith)
several (suc zero) n h k = absurd (omega arith)
several (suc (suc j)) n h k =
    let fewer : suc (suc j) - 1 ≡ suc j = omega arith in
    record { some = omega arith; others = rw fewer ((div-lt_iff_lt-mul {k = 10} (omega arith)).1 (rw (pow-suc 10 (suc j)) at k)); last = rw fewer (simp (le-ltb n 10 (omega arith))) }

single : (most n : ℕ) → 1 ≤ most → n ≤ 9 → digits most n ≡ (48 + n) ∷ []
unfolding digits
single zero n h k = absurd (omega arith)
single (suc j) n h k = simp (lt-ltb n 10 (omega arith))

-- `rest` is to be spelt yet, in `left` digits at most
pub record Spelling (number at : ℕ) (text : Octets) (rest start : ℕ) (after : Octets) : Type 0 where
  pub left : ℕ
  pub done : Octets
  pub some : 1 ≤ left
  pub place : at + left ≡ start + 20
  pub small : rest < 10 ^ left
  pub sum : decimal number ≡ digits left rest ++ done
  pub front : Front done at text start after
  pub kept : length after ≡ length text

pub begins : {number at : ℕ} {text : Octets} → number < 18446744073709551616 → Spelling number at text number at text
unfolding decimal
begins h = record { left = 20; done = []; some = omega arith; place = refl; small = omega arith; sum = sym (append-nil _); front = fronts.none; kept = refl }

module _ {number at rest start : ℕ} {text after : Octets} (s : Spelling number at text rest start after) (low : 20 ≤ at) (high : at ≤ length text) where
  behind : (x : ℕ) → Front (x ∷ s.done) at text (start - 1) (set after (start - 1) x)
  behind x = fronts.then s.front (fronts.one x start after (omega (arith, s.place, s.some)) (omega (arith, s.front.place, s.kept)))

  pub goes_on : 9 < rest → Spelling number at text (rest / 10) (start - 1) (set after (start - 1) (48 + rest % 10))
  goes_on h =
      let m = several s.left rest h s.small in
      record {
        left = s.left - 1;
        done = (48 + rest % 10) ∷ s.done;
        some = omega (arith, m.some);
        place = omega (arith, s.place, m.some);
        small = m.others;
        sum = s.sum ∙ rw m.last (append_assoc (digits (s.left - 1) (rest / 10)) ((48 + rest % 10) ∷ []) s.done);
        front = behind (48 + rest % 10);
        kept = length-set after (start - 1) (48 + rest % 10) ∙ s.kept;
      }

  pub ends : rest ≤ 9 → Front (decimal number) at text (start - 1) (set after (start - 1) (48 + rest))
  ends h =
      rw (s.sum, single s.left rest s.some h) (behind (48 + rest))
