-- The laws of octets put down one behind another: two fields are one, and what is written, stored or copied is put.
use Prim.Native.Nat.{ℕ, ◌+◌, ◌-◌, ◌<◌, ◌≤◌}
use mathlib.Core.Path.{◌≡◌, refl, sym, ap, ◌∙◌}
use mathlib.Core.List.{[], ◌++◌}
use lib.ListN.{length, take, drop, set, get_or, length-append, length-drop}
use lib.Seq.{take-append_seam, take-add, drop-drop, length-take-le, sets, get_or-drop, paste, paste-zero, paste-suc}
use native.Mathlib.Omega.{arith}
use native.Mathlib.Numerals.{add-one}
use Rattle.element.specs.declared.Field as F
use Rattle.element.specs.Octets.{Octets, AreOctets}
use Rattle.element.specs.Field.{put}
use Rattle.element.specs.Encoded.{field_of, octets_in}
use Rattle.element.proofs.FieldLaws.{put_put, put_again, put_none, put_stores, put_length, held}
use Rattle.component.specs.inner.Emitting.{Put}

pub part_length : (s : Octets) (start size : ℕ) → start + size ≤ length s → length (take size (drop start s)) ≡ size
part_length s start size h = length-take-le size (drop start s) (simp length-drop (omega arith))

pub none : {at : ℕ} {out : Octets} → Put [] at out at out
none {at} {out} = record { place = omega arith; octets = sym (put_none at out) }

pub then : {f g : Octets} {at next last : ℕ} {out mid after : Octets} →
    Put f at out next mid → Put g next mid last after → at ≤ length out → Put (f ++ g) at out last after
then {f} {g} {at} {out = out} p q h =
    record {
      place = omega (arith, length-append f g, p.place, q.place);
      octets = q.octets ∙ rw (p.place, p.octets) (put_put f g at out h);
    }

pub stored : (field : Octets) (at : ℕ) (out : Octets) → at + length field ≤ length out → Put field at out (at + length field) (sets out at field)
stored field at out h = record { place = refl; octets = put_stores field at out h }

-- octets put down part by part: `rest` is left of `all`
pub record Left (all : Octets) (at : ℕ) (out rest : Octets) (next : ℕ) (after : Octets) : Type 0 where
  pub place : next + length rest ≡ at + length all
  pub octets : put rest next after ≡ put all at out

pub begins : {all : Octets} {at : ℕ} {out : Octets} → Left all at out all at out
begins = record { place = refl; octets = refl }

pub ends : {all : Octets} {at next : ℕ} {out after : Octets} → Left all at out [] next after → Put all at out next after
ends {next = next} {after = after} l = record { place = omega (arith, l.place); octets = sym (put_none next after) ∙ l.octets }

pub goes_on : (f g : Octets) {all : Octets} {at next last : ℕ} {out mid after : Octets} →
    Left all at out (f ++ g) next mid → Put f next mid last after → next ≤ length mid → Left all at out g last after
goes_on f g {next = next} {mid = mid} l p h =
    record {
      place = omega (arith, length-append f g, l.place, p.place);
      octets = rw (p.place, p.octets) (put_put f g next mid h) ∙ l.octets;
    }

-- a field of one to three octets by value
pub by_value : (s : Octets) → AreOctets s → (1 ≤ length s) × (length s ≤ 3) → {field : F.Field} → field ≡ field_of s →
    {at next : ℕ} {out after : Octets} → Put (octets_in field) at out next after → Put s at out next after
by_value s o h e p = rw (e, held s o h) at p

pub value_room : (s : Octets) {field : F.Field} → (1 ≤ length s) × (length s ≤ 3) → field ≡ field_of s → (at : ℕ) {room : ℕ} → at + length s ≤ room →
    (1 ≤ field.size) × (field.size ≤ 3) × (at + field.size ≤ room)
unfolding field_of
value_room s h e at k = rw e (h.0, h.1, k)

-- octets copied one by one: `i` of them so far
unfoldable pub copied : (s : Octets) (start at : ℕ) (out : Octets) (i : ℕ) → Octets
copied s start at out i = paste out at (drop start s) i

module _ (s : Octets) (start at : ℕ) (out : Octets) where
  pub none_copied : out ≡ copied s start at out 0
  unfolding copied
  none_copied = paste-zero out at (drop start s)

  pub more_copied : (i : ℕ) → start + i < length s → at + i < length out → {so_far : Octets} → so_far ≡ copied s start at out i →
      set so_far (at + i) (get_or s (start + i) 0) ≡ copied s start at out (i + 1)
  unfolding copied
  more_copied i h k e = rw (e, add-one, ← get_or-drop start s i 0) (paste-suc out at (drop start s) i 0 k (simp length-drop (omega arith)))

  pub all_copied : (size : ℕ) → start + size ≤ length s → {after : Octets} → after ≡ copied s start at out size →
      Put (take size (drop start s)) at out (at + size) after
  unfolding put copied
  all_copied size h e = let l = part_length s start size h in record { place = omega arith; octets = e ∙ simp l }

-- octets copied part by part: `i` of them, then `n` of `size`
module _ (s : Octets) (start : ℕ) {at : ℕ} {out : Octets} where
  pub so_far : (i : ℕ) → start + i ≤ length s → {mid : Octets} → mid ≡ put (take i (drop start s)) at out → Put (take i (drop start s)) at out (at + i) mid
  so_far i h e = record { place = ap (λ n. at + n) (sym (part_length s start i h)); octets = e }

  pub further : (i n size : ℕ) → size ≡ i + n → {next last : ℕ} {mid after : Octets} → Put (take i (drop start s)) at out next mid →
      Put (take n (drop (start + i) s)) next mid last after → at ≤ length out → Put (take size (drop start s)) at out last after
  further i n size e p q h = rw (e, take-add i n (drop start s), drop-drop i start s) (then p q h)

  -- the first `m` of them and the last `n`, of which some may be in both
  pub both_ends : (i m n size : ℕ) → size ≡ i + n → i ≤ m → m ≤ size → start + size ≤ length s → at + size ≤ length out → {next last : ℕ} {mid after : Octets} →
      Put (take m (drop start s)) at out next mid → Put (take n (drop (start + i) s)) (at + i) mid last after →
      Put (take size (drop start s)) at out last after
  both_ends i m n size e h j k l {mid = mid} p q =
      let first = take i (drop start s) in
      let twice = take (m - i) (drop (start + i) s) in
      let there = put first at out in
      let c = part_length s start i (omega arith) in
      let f : m ≡ i + (m - i) = omega arith in
      let split : take m (drop start s) ≡ first ++ twice =
      ap (λ m. take m (drop start s)) f ∙ take-add i (m - i) (drop start s) ∙ rw (drop-drop i start s) refl in
      let g : mid ≡ put twice (at + i) there =
      p.octets ∙ ap (λ x. put x at out) split ∙ sym (put_put first twice at out (omega arith)) ∙ ap (λ m. put twice (at + m) there) c in
      let long = part_length s (start + i) n (omega arith) in
      let short = part_length s (start + i) (m - i) (omega arith) in
      let room = put_length first at out (omega arith) in
      further i n size e (so_far i (omega arith) refl)
      (record { place = q.place; octets = q.octets ∙ ap (put _ (at + i)) g ∙ put_again _ twice (at + i) there (omega arith) (omega arith) })
      (omega arith)

-- by way of a block
pub through : (f zeros : Octets) {size : ℕ} → length f ≡ size → size ≤ length zeros → {n at next : ℕ} {block out after : Octets} → Put f 0 zeros n block →
    Put (take size (drop 0 block)) at out next after → Put f at out next after
unfolding put
through f zeros e h p q = rw (p.octets, ← e, take-append_seam f (drop (0 + length f) zeros)) at q
