-- The entries of a table that are all accepted: what is left of them from one on, and their octets.
use Prim.Native.Nat.{ℕ, zero, suc, ◌+◌, ◌-◌, ◌<◌, ◌≤◌}
use mathlib.Core.Path.{◌≡◌, refl, ap, ◌∙◌}
use mathlib.Core.Bool.{true}
use mathlib.Core.List.{List, [], ◌∷◌, ◌++◌}
use lib.ListN.{length, take, drop, length-append}
use native.Mathlib.Omega.{arith}
use native.Mathlib.Nat.{add-zero, zero-add, sub-zero}
use Rattle.element.specs.Octets.{Octets}
use Rattle.element.specs.Answer.{accepted}
use Rattle.element.specs.Identifier.{identifier}
use Rattle.component.specs.Grammar.{Parameter}
use Rattle.component.specs.Composed.{element, set_of}
use Rattle.component.specs.Table.{held, held_from, parameter_of, parameters_from}
use Rattle.component.specs.Composing.{entry_stands, taken_from, entries_from}
use Rattle.component.specs.inner.Emitting.{Put, AllStand}
use Rattle.component.proofs.Putting.{Left, goes_on}
use Rattle.component.proofs.Taken.{taken, passed}

module _ (t : List ℕ) (source : Octets) where
  -- an entry is accepted, and then the others
  first : (i n : ℕ) {ps : List Parameter} → entries_from i (suc n) t source ≡ accepted ps →
      (entry_stands source (held t i) ≡ true) × ((qs : List Parameter) × (entries_from (i + 1) n t source ≡ accepted qs) × (ps ≡ parameter_of source (held t i) ∷ qs))
  unfolding taken_from held_from
  first i n {ps} e =
      let (s, a) = passed (entry_stands source (held t i)) 16 i e in
      let (qs, x, y) = taken (entries_from (i + 1) n t source) a in
      (s, (qs, x, cc))

  pub listed : (i n : ℕ) {ps : List Parameter} → entries_from i n t source ≡ accepted ps → ps ≡ parameters_from i n t source
  unfolding parameters_from taken_from held_from
  listed i zero e = cc
  listed i (suc n) e = let (s, (qs, x, y)) = first i n e in y ∙ ap (λ rs. parameter_of source (held t i) ∷ rs) (listed (i + 1) n x)

  stand_from : (i n : ℕ) {ps : List Parameter} → entries_from i n t source ≡ accepted ps → (k : ℕ) → k < n → entry_stands source (held t (i + k)) ≡ true
  stand_from i zero e k h = absurd (omega arith)
  stand_from i (suc n) e zero h = let (s, _) = first i n e in rw add-zero s
  stand_from i (suc n) e (suc k) h =
      let (s, (qs, x, y)) = first i n e in
      let f : i + suc k ≡ i + 1 + k = omega arith in
      rw f (stand_from (i + 1) n x k (omega arith))

  pub stand : (n : ℕ) {ps : List Parameter} → entries_from 0 n t source ≡ accepted ps → AllStand n t source
  stand n e i h = rw zero-add at (stand_from 0 n e i h)

-- the octets of the parameters from entry `i` on
unfoldable pub rest : (count : ℕ) (table : List ℕ) (source : Octets) (i : ℕ) → Octets
rest count t source i = set_of (parameters_from i (count - i) t source)

module _ (count : ℕ) (t : List ℕ) (source : Octets) where
  pub rest_all : set_of (parameters_from 0 count t source) ≡ rest count t source 0
  unfolding rest
  rest_all = rw sub-zero refl

  pub rest_none : (i : ℕ) → count ≤ i → rest count t source i ≡ []
  unfolding rest parameters_from held_from set_of
  rest_none i h = let e : count - i ≡ 0 = omega arith in rw e refl

  module _ (i : ℕ) (h : i < count) {start size : ℕ} (e : start ≡ (held t i).start) (f : size ≡ (held t i).size) where
    rest_more : rest count t source i
        ≡ element (identifier (held t i).number (held t i).form) (take size (drop start source)) ++ rest count t source (i + 1)
    unfolding rest parameters_from held_from parameter_of set_of
    rest_more = let r : count - i ≡ suc (count - (i + 1)) = omega arith in rw (r, e, f) refl

    module _ {all : Octets} {at : ℕ} {out : Octets} {next : ℕ} {mid : Octets} (l : Left all at out (rest count t source i) next mid) where
      pub room_for : {n : ℕ} → at + length all ≤ n →
          next + length (element (identifier (held t i).number (held t i).form) (take size (drop start source))) ≤ n
      room_for k = omega (arith, l.place, simp length-append at (ap length rest_more))

      pub more_put : {last : ℕ} {after : Octets} →
          Put (element (identifier (held t i).number (held t i).form) (take size (drop start source))) next mid last after →
          next ≤ length mid → Left all at out (rest count t source (i + 1)) last after
      more_put p k = goes_on _ (rest count t source (i + 1)) (rw rest_more at l) p k
