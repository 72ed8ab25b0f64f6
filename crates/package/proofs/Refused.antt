-- What cannot be laid out as a package is refused by 22, at the detail of its fault: where it is opened, or in the walk over
-- its components.
use Prim.Native.Nat.{ℕ, zero, suc, ◌+◌, ◌<◌, ◌≤◌}
use mathlib.Core.Path.{◌≡◌, refl, sym, ap}
use mathlib.Core.List.{List, [], ◌∷◌, append-nil}
use lib.ListN.{length, length-append}
use borrow.Author.Tests.{lt-leb, eq-eqb, ne_eqb}
use native.Mathlib.Omega.{arith}
use Rattle.element.specs.Octets.{Octets, AreOctets}
use Rattle.element.specs.Answer.{Answer, refused, ◌>>=◌}
use Rattle.component.specs.Layout.{Span}
use Rattle.component.specs.Grammar.{laid}
use Rattle.component.specs.Faults.{left}
use Rattle.component.proofs.Complete.{longer}
use Rattle.component.proofs.Refusing.{Rest, first, behind, moved, again, contents_found, wanted_found, filled, begun, begins, all}
use Rattle.package.specs.Types.{id_size}
use Rattle.package.specs.Faults.{InSequence, NoSequence, NoIds, Unpackaged}
use Rattle.package.specs.Layout.{Opening, sequence_at, ids_at, opening, components_from, all_from}
use Rattle.package.proofs.Steps.{known, unknown, renumbered, renumbered_too, contents_faulty, wanted_faulty}

-- ---- the one number
in_sequence : {at n d : ℕ} {t : Octets} → InSequence at t n d → n ≡ 22
in_sequence (InSequence.unheld f) = (renumbered f).0
in_sequence (InSequence.later w f) = in_sequence f

no_sequence : {at n d : ℕ} {t : Octets} → NoSequence at t n d → n ≡ 22
no_sequence (NoSequence.unfound f) = (renumbered_too f).0
no_sequence (NoSequence.left_over (left a rest w)) = refl
no_sequence (NoSequence.inside l f) = in_sequence f

no_ids : {kind at n d : ℕ} {t : Octets} → NoIds kind at t n d → n ≡ 22
no_ids (NoIds.unfound f) = (renumbered_too f).0
no_ids (NoIds.sized rest w h) = refl
no_ids (NoIds.behind w h f) = no_sequence f

pub one_number : {n d : ℕ} {s : Octets} → Unpackaged s n d → n ≡ 22
one_number (Unpackaged.untyped h) = refl
one_number (Unpackaged.unheld h f) = (renumbered f).0
one_number (Unpackaged.left_over h (left a rest w)) = refl
one_number (Unpackaged.inside h l f) = no_ids f

-- ---- and an octet at least
pub some : {n d : ℕ} {s : Octets} → Unpackaged s n d → 0 < length s
some (Unpackaged.untyped h) = omega arith
some (Unpackaged.unheld h f) = let (u, e) = begun f in rw e (omega arith)
some (Unpackaged.left_over h (left a rest w)) = let (u, e) = begins w (a ∷ rest) in rw e (omega arith)
some (Unpackaged.inside h l f) = omega arith

-- ---- the walk
module _ (s : Octets) (o : AreOctets s) where
  components_refused : {at n d : ℕ} {t : Octets} → InSequence at t n d → (most : ℕ) → length t ≤ most → Rest s at t →
      components_from most s at ≡ refused n d
  unfolding components_from
  components_refused (InSequence.unheld f) zero h r = let (u, e) = begun f in absurd (omega (arith, ap length e))
  components_refused {at} (InSequence.unheld f) (suc most) h r =
      let (u, e) = begun f in
      rw (lt-leb (length s) at (omega (arith, ap length e, r.ends)), contents_faulty s o f r)
  components_refused (InSequence.later {o = c} {rest} w f) zero h r = absurd (omega (arith, length-append c rest, longer w))
  components_refused {at} (InSequence.later {o = c} {rest} w f) (suc most) h r =
      let l = length-append c rest in
      let (x, g, b) = contents_found s w r in
      rw (
        lt-leb (length s) at (omega (arith, longer w, r.ends)),
        g,
        b.ends,
        components_refused f most (omega (arith, longer w)) (behind s c r),
      )

  -- what is opened goes on with
  abbrev walk : Opening → Answer (List Span)
  walk x = all_from s x.first

  sequence_refused : (ids : Span) {at n d : ℕ} {t : Octets} → NoSequence at t n d → Rest s at t → (sequence_at s ids at >>= walk) ≡ refused n d
  unfolding sequence_at all_from
  sequence_refused ids (NoSequence.unfound f) r = rw (wanted_faulty s o f r)
  sequence_refused ids (NoSequence.left_over (left {e = e} a rest w)) r =
      let (x, g, b) = wanted_found s 22 w r in
      let z = length-append e (a ∷ rest) in
      rw (g, ne_eqb x.end (length s) (omega (arith, b.ends, r.ends))) (ap (λ k. refused 22 k) b.ends)
  sequence_refused ids (NoSequence.inside {field} f i) r =
      let (x, g, b) = wanted_found s 22 (laid field f) (again s (sym (append-nil _)) r) in
      let (c, e, last) = filled s field r b in
      rw (g, eq-eqb x.end (length s) last, components_refused (rw e at i) (length s) (omega (arith, c.ends)) c)

  ids_refused : {kind at n d : ℕ} {t : Octets} → NoIds kind at t n d → Rest s at t → (ids_at s kind at >>= walk) ≡ refused n d
  unfolding ids_at
  ids_refused (NoIds.unfound f) r = rw (wanted_faulty s o f r)
  ids_refused {kind} (NoIds.sized rest w h) r =
      let (x, g, b) = wanted_found s 22 w r in
      rw (g, b.size, ne_eqb _ (id_size kind) h)
  ids_refused {kind} (NoIds.behind {i = i} w h f) r =
      let (x, g, b) = wanted_found s 22 w r in
      let e = sym b.ends in
      rw (g, b.size, eq-eqb _ (id_size kind) h) (sequence_refused x (rw e at f) (moved s e (behind s i r)))

  pub unpackaged_refused : {n d : ℕ} → Unpackaged s n d → (opening s >>= walk) ≡ refused n d
  unfolding opening
  unpackaged_refused f = go f (all s)
    where
      go : {t : Octets} {n d : ℕ} → Unpackaged t n d → Rest s 0 t → (opening s >>= walk) ≡ refused n d
      go (Unpackaged.untyped h) r = rw (first s r, unknown h)
      go (Unpackaged.unheld h f) r =
          let (u, e) = begun f in
          rw (first s (again s e r), known h, contents_faulty s o f r)
      go (Unpackaged.left_over h (left {e = e} a rest w)) r =
          let (x, g, b) = contents_found s w r in
          let (u, k) = begins w (a ∷ rest) in
          let z = length-append e (a ∷ rest) in
          rw (first s (again s k r), known h, g, ne_eqb x.end (length s) (omega (arith, b.ends, r.ends))) (ap (λ k. refused 22 k) b.ends)
      go (Unpackaged.inside {kind} {field} h l f) r =
          let (x, g, b) = contents_found s {head = kind ∷ []} (laid field l) (again s (sym (append-nil _)) r) in
          let (c, to, last) = filled s field r b in
          let e : 1 + length field ≡ x.start = omega (arith, to) in
          rw (first s r, known h, g, eq-eqb x.end (length s) last) (ids_refused (rw e at f) c)
