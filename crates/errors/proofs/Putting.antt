-- The laws of a name that is put where there is room for all of it, and how long a name is at most.
use Prim.Native.Nat.{ℕ, ◌+◌, ◌<◌, ◌≤◌}
use mathlib.Core.Path.{◌≡◌, refl, sym, ap, ◌∙◌}
use mathlib.Core.Bool.{Bool, true, false}
use mathlib.Core.List.{[], ◌++◌}
use lib.ListN.{length, drop, length-drop}
use lib.Seq.{length-take-le}
use native.Mathlib.Nat.{add-sub_cancel_left}
use native.Mathlib.Omega.{arith}
use borrow.Author.Tests.{le-leb, lt-leb}
use Rattle.element.specs.Octets.{Octets, between}
use Rattle.element.specs.Answer.{Answer, accepted, refused, check, ◌>>◌}
use Rattle.element.specs.Output.{written, output_after}
use Rattle.errors.specs.Table6.{table6, octets_of, name_of, names_in, names, part_of, NamePart}
use Rattle.errors.specs.Naming.{naming}
use Rattle.errors.specs.declared.Part as P
use Rattle.errors.proofs.Parts.{is_name}

counted : length names ≡ 239
unfolding table6 octets_of names_in names
counted = refl

module _ {code : ℕ} (octet : code < 256) {r : P.Part} (e : r ≡ part_of code) where
  name_part : NamePart code r.start r.size
  name_part = rw e (is_name code octet)

  pub inside : r.start + r.size ≤ 239
  inside = rw counted at name_part.within

  sized : length (name_of code) ≡ r.size
  sized =
      sym (ap length name_part.part) ∙
      length-take-le r.size (drop r.start names) (simp length-drop (omega (arith, name_part.within)))

  pub whole : (out : Octets) → r.size ≤ length out → {part : Octets} → part ≡ between r.start (r.start + r.size) names →
      (accepted r.size ≡ written (naming code (length out))) ×
      (part ++ drop r.size out ≡ output_after out (naming code (length out)))
  unfolding naming written output_after
  whole out h e =
      simp (sized, le-leb r.size (length out)) (refl, ap (λ p. p ++ drop r.size out) (e ∙ simp (add-sub_cancel_left, name_part.part)))

  -- a reserved code has a name of no octets
  pub unnamed : (out : Octets) → r.size ≡ 0 →
      (accepted 0 ≡ written (naming code (length out))) × (out ≡ output_after out (naming code (length out)))
  unnamed out z = rw z at (whole out (omega arith) {part = []} (simp (add-sub_cancel_left, z)))

  pub cramped : (out : Octets) → length out < r.size →
      (refused 17 r.size ≡ written (naming code (length out))) ×
      (out ≡ output_after out (naming code (length out)))
  unfolding naming written output_after
  cramped out h = simp (sized, lt-leb r.size (length out)) (refl, refl)

-- the number in an answer: how many octets are put, or were to be put
abbrev pub told : Answer ℕ → ℕ
told (accepted n) = n
told (refused number n) = n

either : (b : Bool) (s : Octets) → told (written (check b 17 (length s) >> accepted s)) ≡ length s
unfolding written
either true s = refl
either false s = refl

-- of a name it is at most 239, whether it is put (`accepted n`) or refused (`refused 17 n`)
pub short : {code : ℕ} (room : ℕ) {a : Answer ℕ} → code < 256 → a ≡ written (naming code room) → told a ≤ 239
unfolding naming
short room octet e = rw (e, either) (omega (arith, inside octet refl, sized octet refl))
