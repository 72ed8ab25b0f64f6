-- Where the parts stand that the steps of the layout find: inside their parent, each behind its field.
use Prim.Native.Nat.{ℕ, suc, ◌+◌, ◌<◌, ◌≤◌}
use mathlib.Core.Path.{◌≡◌, refl}
use mathlib.Core.Bool.{Bool, ◌||◌, not}
use lib.ListN.{get_or}
use lib.Dec.{ltb, leb, eqb}
use borrow.Author.Tests.{leb-true, eqb-true}
use native.Mathlib.Omega.{arith}
use Rattle.std.specs.Prelude.{Option, Some, None}
use Rattle.element.specs.declared.Length as L
use Rattle.element.specs.Octets.{Octets, AreOctets, between}
use Rattle.element.specs.Answer.{accepted}
use Rattle.element.specs.Decoded.{length_at}
use Rattle.element.proofs.LengthLaws as Length
use Rattle.component.specs.Types.{Coding, uncoded, coded, family_size}
use Rattle.component.specs.Layout.{Span, span, size_of, contents, span_of, wanted, set_at, coded_at, code_at}
use Rattle.component.proofs.Parts.{octets_between}
use Rattle.component.proofs.Taken.{taken, passed}

-- the contents of an element, behind its length field or its identifier at `from`
pub record Held (from end : ℕ) (x : Span) : Type 0 where
  pub behind : from < x.start
  pub ordered : x.start ≤ x.end
  pub inside : x.end ≤ end

module _ (s : Octets) (o : AreOctets s) where
  pub inside : (at : ℕ) {from end : ℕ} {x : Span} → contents s at from end ≡ accepted x → Held from end x
  unfolding contents span_of
  inside at {from} {end} {x} e = go (length_at (between from end s)) refl e
    where
      go : (l : Option L.Length) → length_at (between from end s) ≡ l → span_of at from end l ≡ accepted x → Held from end x
      go (Some read) p q =
          let n = read.value in
          let k = read.size in
          let h = Length.inside (between from end s) (octets_between s o from end) p in
          let (t, r) = passed (leb (from + k + n) end) _ at q in
          let i = leb-true (from + k + n) end t in
          let y : span (from + k) (from + k + n) ≡ x = cc in
          rw (← y) (record { behind = omega arith; ordered = omega arith; inside = i })
      go None p q = let z : ◌≡◌ {A = ℕ} 0 1 = cc in absurd (omega arith)

  pub wanted_inside : (octet number : ℕ) {at end : ℕ} {x : Span} → wanted s octet number at end ≡ accepted x → Held (suc at) end x
  unfolding wanted
  wanted_inside octet number {at} {end} e =
      let (_, f) = passed (ltb at end) _ end e in
      let (_, g) = passed (eqb (get_or s at 0) octet) number at f in
      let h = inside at g in
      record { behind = omega arith; ordered = h.ordered; inside = h.inside }

  pub set_inside : {at end : ℕ} {f : Span} → set_at s at end ≡ accepted f → Held (suc at) end f × (f.end ≡ end)
  unfolding set_at
  set_inside {at} {end} {f} e =
      let (x, g, h) = taken (wanted s 0xF2 8 at end) e in
      let (k, p) = passed (eqb x.end end) _ x.end h in
      let y : x ≡ f = cc in
      rw (← y) (wanted_inside 0xF2 8 g, eqb-true x.end end k)

  -- the code of an element that was found, behind the element's identifier
  pub coded_inside : (octet number : ℕ) (family : Bool) (size : ℕ) {at end : ℕ} {x : Span} → coded_at s octet number family size at end ≡ accepted x → Held at end x
  unfolding coded_at
  coded_inside octet number family size {at} {end} {x} e =
      let (d, g, h) = taken (wanted s octet number at end) e in
      let (t, p) = passed (eqb (size_of d) (family_size family + size)) number at h in
      let (_, q) = passed (not family || eqb (get_or s d.start 0) 9) number at p in
      let i = wanted_inside octet number g in
      let n = eqb-true (size_of d) (family_size family + size) t in
      let y : span (d.start + family_size family) d.end ≡ x = cc in
      rw (← y) (record { behind = omega arith; ordered = omega arith; inside = i.inside })

  -- the code of a type that was found, or the place where there is none
  pub code_inside : (k : Coding) {at end : ℕ} {x : Span} → at ≤ end → code_at s k at end ≡ accepted x → (at ≤ x.start) × (x.start ≤ x.end) × (x.end ≤ end)
  unfolding code_at
  code_inside uncoded {at} {end} {x} h e = let y : span at at ≡ x = cc in rw (← y) (omega arith)
  code_inside (coded octet number family size) h e = let i = coded_inside octet number family size e in (omega arith, i.ordered, i.inside)
