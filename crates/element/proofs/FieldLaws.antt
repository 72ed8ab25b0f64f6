-- The laws of a field written into a lent output: where there is room it stands there and nothing else changes.
use Prim.Native.Nat.{ℕ, ◌+◌, ◌-◌, ◌%◌, ◌≤◌}
use mathlib.Core.Path.{◌≡◌, refl, sym, ap, ◌∙◌}
use mathlib.Core.List.{[], ◌∷◌, ◌++◌, append_assoc, append-nil}
use lib.ListN.{length, take, drop, length-append, length-take, length-drop, take-append-drop}
use lib.Seq.{take-append_seam, take_at, drop-append-add, drop-drop, length-take-le, sets, sets-eq}
use borrow.Author.Tests.{le-leb}
use native.Mathlib.Nat.{add-zero}
use native.Mathlib.Omega.{arith}
use Rattle.element.specs.Octets.{Octets, AreOctets}
use Rattle.element.specs.Field.{put, output_after}
use Rattle.element.specs.Encoded.{field_of, octets_in}

pub put_next : (done field out : Octets) →
    put field (length done) (done ++ drop (length done) out) ≡ (done ++ field) ++ drop (length (done ++ field)) out
unfolding put
put_next done field out = simp (take-append_seam, drop-append-add, drop-drop, length-append)

-- one field behind another is both at once
pub put_put : (f g : Octets) (at : ℕ) (out : Octets) → at ≤ length out → put g (at + length f) (put f at out) ≡ put (f ++ g) at out
unfolding put
put_put f g at out h =
    let done = take at out ++ f in
    let e : at + length f ≡ length done = sym (simp (length-append, length-take-le at out h)) in
    rw e (put_next done g out ∙ simp (append_assoc, length-append, length-take-le at out h))

-- what is put over a field that is no longer stands as if there had been no field
pub put_again : (g h : Octets) (at : ℕ) (out : Octets) → at ≤ length out → length h ≤ length g → put g at (put h at out) ≡ put g at out
unfolding put
put_again g h at out k l =
    let mid = take at out ++ h in
    let rest = drop (at + length h) out in
    let n = length g - length h in
    let e : at + length g ≡ length mid + n = simp (length-append, length-take-le at out k) (omega arith) in
    let f : at + length h + n ≡ at + length g = omega arith in
    let before : take at (mid ++ rest) ≡ take at out = rw append_assoc (take_at (take at out) (h ++ rest) at (length-take-le at out k)) in
    let behind : drop (at + length g) (mid ++ rest) ≡ drop (at + length g) out =
    ap (λ j. drop j (mid ++ rest)) e ∙ drop-append-add mid rest n ∙ drop-drop n (at + length h) out ∙ ap (λ j. drop j out) f in
    rw (before, behind) refl

pub put_none : (at : ℕ) (out : Octets) → put [] at out ≡ out
unfolding put
put_none at out = simp (append-nil, add-zero, take-append-drop)

pub put_stores : (field : Octets) (at : ℕ) (out : Octets) → at + length field ≤ length out → sets out at field ≡ put field at out
unfolding put
put_stores field at out h = sets-eq field out at h

module _ (field : Octets) (at : ℕ) (out : Octets) where
  pub put_length : at + length field ≤ length out → length (put field at out) ≡ length out
  unfolding put
  put_length h = simp (length-append, length-take, length-drop) (omega arith)

  pub roomy : at + length field ≤ length out → output_after field at out ≡ put field at out
  unfolding output_after
  roomy h = simp (le-leb (at + length field) (length out) h)

-- a field of one to three octets is what its value holds
pub held : (s : Octets) → AreOctets s → (1 ≤ length s) × (length s ≤ 3) → octets_in (field_of s) ≡ s
unfolding octets_in field_of
held [] o h = absurd (omega arith)
held (a ∷ []) o h = let e : a % 256 ≡ a = omega (arith, o 0) in rw e
held (a ∷ b ∷ []) o h =
    let e : a % 256 ≡ a = omega (arith, o 0) in
    let f : b % 256 ≡ b = omega (arith, o 1) in
    rw (e, f)
held (a ∷ b ∷ c ∷ []) o h =
    let e : a % 256 ≡ a = omega (arith, o 0) in
    let f : b % 256 ≡ b = omega (arith, o 1) in
    let g : c % 256 ≡ c = omega (arith, o 2) in
    rw (e, f, g)
held (a ∷ b ∷ c ∷ d ∷ s) o h = absurd (omega arith)
