-- Octets in front of a lent output, and the part behind them.
use Prim.Native.Nat.{ℕ, ◌+◌, ◌-◌, ◌<◌, ◌≤◌}
use mathlib.Core.Path.{◌≡◌, sym, ap, ◌∙◌}
use mathlib.Core.List.{List, [], ◌∷◌, ◌++◌, append_assoc, append-nil}
use lib.ListN.{length, take, drop, set, drop_of_length-le}
use lib.Seq.{sets, take-length, drop-drop}
use borrow.Author.Tests.{lt-ltb}
use borrow.Author.Rules.{part_to_end}
use borrow.Rule.Slice.PartMut.{put_mid}
use native.Mathlib.Nat.{zero-add}
use native.Mathlib.Omega.{arith}
use Rattle.element.specs.declared.Field as F
use Rattle.element.specs.Octets.{Octets}
use Rattle.element.specs.Answer.{accepted}
use Rattle.element.specs.Output.{output_after}
use Rattle.element.specs.Field.{put}
use Rattle.element.specs.Length.{shortest}
use Rattle.element.specs.Encoded.{field_of, octets_in}
use Rattle.element.proofs.LengthLaws as L
use Rattle.element.proofs.FieldLaws.{put_put, put_stores, held}
use Rattle.component.specs.Composed.{element}
use Rattle.component.specs.inner.Emitting.{Put}
use Rattle.component.proofs.Putting.{stored, then, copied, all_copied}

-- an octet and the shortest length field, by the field's value
pub field_room : {n room : ℕ} {field : F.Field} → (n < 65536) × (1 + length (shortest n) ≤ room) → field ≡ field_of (shortest n) →
    (1 ≤ field.size) × (field.size ≤ 3) × (1 + field.size ≤ room)
unfolding field_of
field_room {n} h e = let f = L.sizes (L.short n h.0) in rw e (f.0, f.1, h.1)

pub headed : {octet n size : ℕ} {out : Octets} {field : F.Field} → (n < 65536) × (1 + length (shortest n) ≤ length out) → field ≡ field_of (shortest n) →
    field.size ≡ size → Put (octet ∷ shortest n) 0 out (1 + size) (sets out 0 (octet ∷ take size (field.first ∷ field.second ∷ field.third ∷ [])))
unfolding octets_in field_of
headed {octet} {n} {size} {out} {field} h e k =
    let f = L.short n h.0 in
    let g : take size (field.first ∷ field.second ∷ field.third ∷ []) ≡ shortest n =
    rw (← k) (ap octets_in e) ∙ held (shortest n) (L.octets f) (L.sizes f) in
    rw g (record { place = omega (arith, ap (λ f. f.size) e); octets = put_stores (octet ∷ shortest n) 0 out (omega arith) })

-- an octet, a length below 128 and as many octets, copied one by one
pub short_copied : (octet : ℕ) (s : Octets) {out after : Octets} → (length s < 128) × (2 + length s ≤ length out) →
    after ≡ copied s 0 2 (set (set out 0 octet) 1 (length s)) (length s) → Put (element (octet ∷ []) s) 0 out (2 + length s) after
unfolding element shortest
short_copied octet s {out} h e =
    rw (lt-ltb (length s) 128 h.0)
    (then (stored (octet ∷ length s ∷ []) 0 out (omega arith)) (rw take-length at (all_copied s 0 2 _ (length s) (omega arith) e)) (omega arith))

-- ---- a part of the output, put back
-- the rest of a list from `a` on, as a part of a slice has it
abbrev pub behind : {A : Type 0} → ℕ → List A → List A
behind a xs = take (length xs - a) (drop a xs)

pub front : (s out : Octets) → put s 0 out ≡ output_after out (accepted s)
unfolding put output_after
front s out = simp zero-add

pub put_behind : (s out : Octets) (a : ℕ) {after : Octets} → after ≡ put s 0 (behind a out) → put_mid a (length out - a) out after ≡ put s a out
unfolding put
put_behind s out a e =
    let n = drop_of_length-le out {i = a + (length out - a)} (omega arith) in
    rw e (simp (part_to_end, drop-drop, n, zero-add, append_assoc) (ap (λ l. take a out ++ (s ++ l)) (append-nil (drop (a + length s) out))))

-- what is put into a part stands in the whole
pub part : {s out after : Octets} {a n : ℕ} → Put s 0 (behind a out) n after → Put s a out (a + n) (put_mid a (length out - a) out after)
part {s} {out} {after} {a} p = record { place = omega (arith, p.place); octets = put_behind s out a p.octets }

-- and behind what was put first
pub goes_behind : (g : Octets) {f out after last : Octets} {n : ℕ} → Put f 0 out n after → last ≡ output_after (behind n after) (accepted g) →
    put_mid n (length after - n) after last ≡ output_after out (accepted (f ++ g))
goes_behind g {f} {out} {after} {n = n} p e =
    let m : put g n after ≡ put (f ++ g) 0 out = rw (p.place, p.octets) (put_put f g 0 out (omega arith)) in
    put_behind g after n (e ∙ sym (front g (behind n after))) ∙ m ∙ front (f ++ g) out
