-- The fields of an input: of a field's octets and what follows them, that field and then the fields of what follows; of
-- a part of a field none, and it is cut.
use Rattle.std.proofs.Common.{◌≡◌, ℕ, ◌+◌, ◌*◌, ◌/◌, ◌%◌, ◌<◌, Bool, true, false, ltb, [], ◌∷◌, ◌++◌, length, get_or, sym, refl, ap, ◌∙◌, append_assoc, arith, length-append, ltb-false, le-ltb, lt-ltb, le-leb}
use lib.ListN.{get_or-append}
use borrow.Author.Tests.{lt-leb}
use Rattle.element.specs.Octets.{Octets}
use Rattle.lines.specs.Header.{field_at}
use Rattle.lines.specs.Listing.{Tagged, octets_of, fills, whole, before, input_from, input_of}

module _ (f : Tagged) where
  abbrev size : ℕ
  size = length f.contents / 256 * 256 + length f.contents % 256

  all_whole : whole (octets_of f) ≡ true
  unfolding whole fills field_at octets_of
  all_whole = simp (le-ltb (length (octets_of f)) 3 (omega arith), le-leb (3 + size) (length (octets_of f)) (omega arith))

  module _ (p q : Octets) (e : p ++ q ≡ octets_of f) (some : 0 < length q) where
    sum : length p + length q ≡ 3 + length f.contents
    unfolding octets_of
    sum = omega (arith, length-append p q, ap length e)

    octet : (i : ℕ) → i < length p → get_or p i 0 ≡ get_or (octets_of f) i 0
    octet i h = sym (get_or-append p q 0 i h) ∙ rw e

    by_size : (b : Bool) → ltb (length p) 3 ≡ b → whole p ≡ false
    unfolding whole fills field_at octets_of
    by_size true h = simp h
    by_size false h =
        let k = ltb-false (length p) 3 h in
        simp (h, octet 1 (omega arith), octet 2 (omega arith), lt-leb (3 + size) (length p) (omega (arith, sum)))

    part_not_whole : whole p ≡ false
    part_not_whole = by_size (ltb (length p) 3) refl

  goes_on : (held more s : Octets) → held ++ more ≡ octets_of f → 0 < length more → input_from held (more ++ s) ≡ before f (input_from [] s)
  unfolding input_from octets_of
  goes_on held [] s e h = absurd (omega arith)
  goes_on held (x ∷ []) s e h = rw (e, all_whole)
  goes_on held (x ∷ y ∷ more) s e h =
      let next : (held ++ x ∷ []) ++ y ∷ more ≡ octets_of f = append_assoc held (x ∷ []) (y ∷ more) ∙ e in
      rw (part_not_whole (held ++ x ∷ []) (y ∷ more) next (omega arith)) (goes_on (held ++ x ∷ []) (y ∷ more) s next (omega arith))

  stops : (held part rest : Octets) → held ++ (part ++ rest) ≡ octets_of f → 0 < length rest → 0 < length held + length part →
      input_from held part ≡ record { fields = []; cut = true }
  unfolding input_from
  stops held [] rest e h k = simp (lt-ltb 0 (length held) (omega arith))
  stops held (x ∷ part) rest e h k =
      let next : (held ++ x ∷ []) ++ (part ++ rest) ≡ octets_of f = append_assoc held (x ∷ []) (part ++ rest) ∙ e in
      rw (part_not_whole (held ++ x ∷ []) (part ++ rest) next (simp length-append (omega arith)))
      (stops (held ++ x ∷ []) part rest next h (simp length-append (omega arith)))

  -- a whole field is the first of the input that it begins
  pub first : (s : Octets) → input_of (octets_of f ++ s) ≡ before f (input_of s)
  unfolding input_of octets_of
  first s = goes_on [] (octets_of f) s refl (omega arith)

  -- a part of a field is cut
  pub cut : (part rest : Octets) → part ++ rest ≡ octets_of f → 0 < length part → 0 < length rest → input_of part ≡ record { fields = []; cut = true }
  unfolding input_of
  cut part rest e h k = stops [] part rest e k (omega arith)

-- where the input ends between two fields nothing is cut
pub none : input_of [] ≡ record { fields = []; cut = false }
unfolding input_of input_from
none = refl
