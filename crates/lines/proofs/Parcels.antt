-- The lines of a package's components: put down from the last to the first, and no longer than the longest.
use Rattle.std.proofs.Common.{◌≡◌, ℕ, zero, suc, ◌+◌, ◌-◌, ◌*◌, ◌<◌, ◌≤◌, List, [], ◌∷◌, length, get_or, drop, refl, ap, add-zero, arith, length-append, get_or-drop, drop-drop}
use Rattle.element.specs.Octets.{Octets}
use Rattle.element.specs.Answer.{Answer, accepted, refused, ◌>>=◌}
use Rattle.package.specs.declared.Packages as S
use Rattle.package.specs.Caller.{Inside}
use Rattle.package.specs.Told.{Envelope, answer_in}
use Rattle.lines.specs.Line.{longest, Front}
use Rattle.lines.specs.Packages.{inside_line, inside_lines, package_lines, packages}
use Rattle.lines.specs.inner.Parcels.{count_in, inside_in, insides, parcel_of, parcel_in}
use Rattle.lines.proofs.Stepping.{row_short, line_short}
use Rattle.lines.proofs.Fronts as fronts

-- ---- the lines of the components from `i` on
module _ (count : ℕ) (ps ss : List ℕ) where
  abbrev pub lines_from : (i : ℕ) → Octets
  lines_from i = inside_lines (insides (count - i) (drop i ps) (drop i ss))

  pub begins : {at : ℕ} {text : Octets} → Front (lines_from count) at text at text
  unfolding insides inside_lines
  begins = let n : count - count ≡ 0 = omega arith in rw n fronts.none

  module _ {i at start : ℕ} {text after : Octets} (lines : Front (lines_from i) at text start after) where
    pub goes_on : 0 < i → i ≤ count → {first : ℕ} {more : Octets} →
        Front (inside_line (inside_in (get_or ps (i - 1) 0) (get_or ss (i - 1) 0))) start after first more → Front (lines_from (i - 1)) at text first more
    unfolding insides inside_lines
    goes_on h k line =
        let n : count - (i - 1) ≡ suc (count - i) = omega arith in
        let next : i - 1 + 1 ≡ i = omega arith in
        rw n (simp (get_or-drop, drop-drop, add-zero, next) (fronts.then lines line))

    pub ends : i ≤ 0 → Front (inside_lines (insides count ps ss)) at text start after
    ends h = let z : i ≡ 0 = omega arith in let n : count - 0 ≡ count = omega arith in rw (z, n) at lines

-- ---- how many they are, and how long
pub counted : (count : ℕ) (ps ss : List ℕ) → length (insides count ps ss) ≡ count
unfolding insides
counted zero ps ss = refl
counted (suc n) ps ss = ap suc (counted n (drop 1 ps) (drop 1 ss))

few_short : (cs : List Inside) → length (inside_lines cs) ≤ length cs * (1 + longest)
unfolding inside_lines inside_line
few_short [] = omega arith
few_short (c ∷ cs) = simp length-append (omega (arith, line_short c.place (accepted c.told), few_short cs))

pub lines_short : (item : ℕ) (r : S.Packages) → count_in (answer_in r.answer) ≤ 8 → length (package_lines item (parcel_in r)) ≤ packages.longest
unfolding parcel_in package_lines
lines_short item r h = go (answer_in r.answer) h
  where
    go : (a : Answer Envelope) → count_in a ≤ 8 → length (package_lines item (a >>= λ x. accepted (parcel_of x r.places r.components))) ≤ packages.longest
    go (accepted x) k =
        let cs = insides x.count r.places r.components in
        simp length-append (omega (arith, row_short item 0 0 x.kind (length cs), few_short cs, counted x.count r.places r.components))
    go (refused n d) k = omega (arith, row_short item n d 0 0)
