-- A package laid out is opened where its parts stand, and its components are found one behind another.
use Prim.Native.Nat.{ℕ, zero, suc, ◌+◌, ◌-◌, ◌≤◌}
use mathlib.Core.Path.{◌≡◌, refl, sym, ap, ◌∙◌}
use mathlib.Core.List.{List, [], ◌∷◌, ◌++◌, append_assoc, append-nil}
use lib.ListN.{length, get_or, length-append}
use lib.Seq.{take-append_seam}
use borrow.Author.Tests.{le-leb, lt-leb, eq-eqb}
use native.Mathlib.Omega.{arith}
use Rattle.element.specs.Octets.{Octets}
use Rattle.element.specs.Answer.{accepted}
use Rattle.component.specs.Layout.{Span, span}
use Rattle.component.specs.Part.{fits, part_of}
use Rattle.component.proofs.Complete.{longer, first_octet}
use Rattle.component.proofs.Refusing.{Rest, behind, moved, again, contents_found, wanted_found, all}
use Rattle.package.specs.Types.{id_size}
use Rattle.package.specs.Grammar.{Package, Sequence, none, more, Packaged}
use Rattle.package.specs.Layout.{Opening, opening, ids_at, sequence_at, components_from, all_from}
use Rattle.package.specs.Demands.{sequence_place, first_place, ids_place}
use Rattle.package.proofs.Steps.{known}

-- ---- the components, the first of which stands at `at`
unfoldable pub spans_from : (at : ℕ) → List Octets → List Span
spans_from at [] = []
spans_from at (o ∷ os) = span at (at + length o) ∷ spans_from (at + length o) os

pub as_many : (at : ℕ) (os : List Octets) → length (spans_from at os) ≡ length os
unfolding spans_from
as_many at [] = refl
as_many at (o ∷ os) = ap suc (as_many (at + length o) os)

module _ (s : Octets) where
  components_found : {os : List Octets} {t : Octets} → Sequence os t → {at : ℕ} (most : ℕ) → length t ≤ most → Rest s at t →
      components_from most s at ≡ accepted (spans_from at os)
  unfolding components_from spans_from
  components_found none zero h r = refl
  components_found none {at} (suc most) h r = rw (le-leb (length s) at (omega (arith, r.ends)))
  components_found (more {o = o} {rest} w q) zero h r = absurd (omega (arith, length-append o rest, longer w))
  components_found (more {o = o} {rest} w q) {at} (suc most) h r =
      let l = length-append o rest in
      let (x, g, b) = contents_found s w r in
      rw (
        lt-leb (length s) at (omega (arith, longer w, r.ends)),
        g,
        b.ends,
        components_found q most (omega (arith, longer w)) (behind s o r),
      )

-- ---- where the parts of a package stand
module _ {p : Package} {s : Octets} (h : Packaged p s) where
  pub first_kind : get_or s 0 0 ≡ p.kind
  first_kind = rw append-nil at (first_octet h.whole [])

  abbrev pub opening_of : Opening
  opening_of = record { ids = span (ids_place h) (sequence_place h); sequence = sequence_place h; first = first_place h }

  found : (opening s ≡ accepted opening_of) × Rest s (first_place h) h.contents × Rest s (ids_place h) (p.ids ++ (h.sequence ++ []))
  unfolding opening ids_at sequence_at
  found =
      let i = h.ids in
      let q = h.sequence in
      let (x, f, b) = contents_found s h.whole (again s (sym (append-nil s)) (all s)) in
      let r = again s {u = i ++ (q ++ [])} (append_assoc i q []) b.starts in
      let (y, g, c) = wanted_found s 22 h.identified r in
      let (z, k, d) = wanted_found s 22 h.sequenced (moved s (sym c.ends) (behind s i r)) in
      let l = length-append i q in
      let m = length-append q [] in
      let to : y.end ≡ sequence_place h = omega (arith, d.ends, b.ends, b.size, c.ends) in
      let from : y.start ≡ ids_place h = omega (arith, c.size, c.order) in
      let inner : z.start ≡ first_place h = omega (arith, d.size, d.order, d.ends) in (
        rw (
          first_kind,
          known h.typed,
          f,
          eq-eqb x.end (length s) (omega (arith, b.ends)),
          g,
          eq-eqb (y.end - y.start) (id_size p.kind) (c.size ∙ h.sized),
          k,
          eq-eqb z.end (length s) (omega (arith, d.ends)),
        )
            (λ j. accepted (record { ids = span (from j) (to j); sequence = to j; first = inner j })),
        moved s inner (again s (append-nil h.contents) d.starts),
        moved s from c.starts,
      )

  pub opening_found : opening s ≡ accepted opening_of
  opening_found = found.0

  pub components_stand : Rest s (first_place h) h.contents
  components_stand = found.1

  pub all_found : all_from s (first_place h) ≡ accepted (spans_from (first_place h) p.components)
  unfolding all_from
  all_found = components_found s h.components (length s) (omega (arith, components_stand.ends)) components_stand

  -- how many ID octets there are
  pub ids_size : sequence_place h - ids_place h ≡ length p.ids
  ids_size = omega (arith, longer h.identified, longer h.whole, length-append h.ids h.sequence)

  -- and which they are
  pub ids_again : part_of s (ids_place h) (length p.ids) ≡ p.ids
  unfolding part_of fits
  ids_again =
      let r = found.2 in
      let l = length-append p.ids (h.sequence ++ []) in
      rw (le-leb (ids_place h + length p.ids) (length s) (omega (arith, r.ends)), r.octets) (take-append_seam p.ids (h.sequence ++ []))
