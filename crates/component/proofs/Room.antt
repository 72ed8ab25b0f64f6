-- The parameters that are put down as far as they stand and find room: what is left of them from an entry on, and that they are all
-- where all stand and there is room for all.
use Prim.Native.Nat.{ℕ, zero, suc, ◌+◌, ◌-◌, ◌<◌, ◌≤◌}
use mathlib.Core.Path.{◌≡◌, refl, sym, ◌∙◌}
use mathlib.Core.Bool.{Bool, true, false, and-false}
use mathlib.Core.List.{List, [], ◌++◌}
use lib.ListN.{length}
use borrow.Author.Tests.{le-leb, lt-leb}
use native.Mathlib.Omega.{arith}
use native.Mathlib.Nat.{add-zero, sub-zero}
use Rattle.std.specs.Prelude.{Some, None}
use Rattle.std.proofs.lemmas.Option.{same_Some, none-some}
use Rattle.element.specs.Octets.{Octets, if}
use Rattle.element.specs.Identifier.{identifier_size}
use Rattle.element.proofs.LengthLaws as L
use Rattle.element.proofs.IdentifierLaws as I
use Rattle.component.specs.Composed.{set_of}
use Rattle.component.specs.Needed.{element_size, set_size}
use Rattle.component.specs.Table.{Entry, held, held_from, EntryStands, parameter_of, parameters_from}
use Rattle.component.specs.Composing.{entry_stands}
use Rattle.component.specs.inner.Emitting.{Put, octets_at, size_in, finds_room, fitting}
use Rattle.component.proofs.Putting.{part_length, Left, goes_on}
use Rattle.component.proofs.Counting.{entry_size}
use Rattle.component.proofs.Sizes.{element_length}
use Rattle.component.proofs.Entries.{stands, stands_true}

-- how many octets an entry's parameter has
abbrev pub size_at : Entry → ℕ
size_at e = element_size (identifier_size e.number) e.size

pub as_many : {source : Octets} {e : Entry} → EntryStands source e → e.size < 65536 → length (octets_at source e) ≡ size_at e
as_many {source} {e} s h =
    let l = part_length source e.start e.size s.content in
    element_length _ _ (omega arith) ∙ rw (I.size e.number e.form, l) refl

-- at most six more than the contents
pub at_most : (e : Entry) → e.size < 65536 → size_at e ≤ 6 + e.size
unfolding element_size
at_most e h = omega (arith, I.small e.number refl, L.sizes (L.short e.size h), L.size e.size h)

module _ (source : Octets) (room : ℕ) (e : Entry) where
  finds : EntryStands source e → size_at e ≤ room → finds_room source room e ≡ true
  unfolding finds_room
  finds s h = rw (stands_true s, le-leb (size_at e) room h) refl

  stands_not : entry_stands source e ≡ false → finds_room source room e ≡ false
  unfolding finds_room
  stands_not f = rw f refl

  too_long : room < size_at e → finds_room source room e ≡ false
  unfolding finds_room
  too_long h = rw (lt-leb (size_at e) room h) (and-false (entry_stands source e))

-- ---- an entry by its octets, where it has any
module _ (source : Octets) (e : Entry) where
  pub stands_with : {n : ℕ} → Some n ≡ size_in source e → EntryStands source e × (n ≡ size_at e)
  stands_with {n} = go (entry_stands source e) refl
    where
      go : (b : Bool) → entry_stands source e ≡ b → Some n ≡ if b (Some (size_at e)) None → EntryStands source e × (n ≡ size_at e)
      go true f g = (stands f, same_Some _ _ g)
      go false f g = absurd (none-some _ (sym g))

  pub stands_none : None ≡ size_in source e → entry_stands source e ≡ false
  stands_none = go (entry_stands source e) refl
    where
      go : (b : Bool) → entry_stands source e ≡ b → None ≡ if b (Some (size_at e)) None → entry_stands source e ≡ false
      go true f g = absurd (none-some _ g)
      go false f g = f

-- ---- what is left from entry `i` on
unfoldable pub rest : (count : ℕ) (table : List ℕ) (source : Octets) (room i : ℕ) → Octets
rest count t source room i = fitting source room (held_from i (count - i) t)

module _ (count : ℕ) (t : List ℕ) (source : Octets) (room : ℕ) where
  pub rest_all : fitting source room (held_from 0 count t) ≡ rest count t source room 0
  unfolding rest
  rest_all = rw sub-zero refl

  pub rest_none : (i : ℕ) → count ≤ i → rest count t source room i ≡ []
  unfolding rest held_from fitting
  rest_none i h = let e : count - i ≡ 0 = omega arith in rw e refl

  module _ (i : ℕ) (h : i < count) where
    more : count - i ≡ suc (count - (i + 1))
    more = omega arith

    stopped : finds_room source room (held t i) ≡ false → rest count t source room i ≡ []
    unfolding rest held_from fitting
    stopped e = rw more (simp e)

    pub no_stand : entry_stands source (held t i) ≡ false → rest count t source room i ≡ []
    no_stand e = stopped (stands_not _ _ _ e)

    pub no_room : room < size_at (held t i) → rest count t source room i ≡ []
    no_room k = stopped (too_long _ _ _ k)

    pub rest_more : EntryStands source (held t i) → size_at (held t i) ≤ room →
        rest count t source room i ≡ octets_at source (held t i) ++ rest count t source (room - size_at (held t i)) (i + 1)
    unfolding rest held_from fitting
    rest_more s k = rw more (simp (finds _ _ _ s k))

-- ---- one more of them put down, where the output has `size` octets
module _ (count : ℕ) (t : List ℕ) (source : Octets) (size i next : ℕ) (h : i < count) (s : EntryStands source (held t i)) (short : (held t i).size < 65536)
    (fits : size_at (held t i) ≤ size - next) where
  pub room_for : next ≤ size → next + length (octets_at source (held t i)) ≤ size
  room_for k = omega (arith, as_many s short)

  pub more_put : {all : Octets} {at : ℕ} {out : Octets} {mid : Octets} → Left all at out (rest count t source (size - next) i) next mid →
      {last : ℕ} {after : Octets} → Put (octets_at source (held t i)) next mid last after → next ≤ length mid → Left all at out (rest count t source (size - last) (i + 1)) last after
  more_put l {last} p k =
      let e : size - next - size_at (held t i) ≡ size - last = omega (arith, as_many s short, p.place) in
      rw (← e) (goes_on _ _ (rw (rest_more count t source (size - next) i h s fits) at l) p k)

-- ---- all of them
pub all_fit : (t : List ℕ) (source : Octets) (i n : ℕ) {room : ℕ} → ((k : ℕ) → k < n → entry_stands source (held t (i + k)) ≡ true) →
    set_size (parameters_from i n t source) ≤ room → fitting source room (held_from i n t) ≡ set_of (parameters_from i n t source)
unfolding fitting held_from parameters_from parameter_of set_of set_size
all_fit t source i zero s h = refl
all_fit t source i (suc n) {room} s h =
    let v = stands (rw add-zero at (s 0 (omega arith))) in
    let z = entry_size v in
    let more : (k : ℕ) → k < n → entry_stands source (held t (i + 1 + k)) ≡ true = λ k g. let j : i + suc k ≡ i + 1 + k = omega arith in rw j at (s (suc k) (omega arith)) in
    simp (finds source room (held t i) v (omega arith)) (rw (all_fit t source (i + 1) n {room = room - size_at (held t i)} more (omega arith)) refl)
