-- A component that is put down by what was measured of it: what the tests on the way say, and that it is what is composed.
use Prim.Native.Nat.{ℕ, ◌+◌, ◌*◌, ◌-◌, ◌<◌, ◌≤◌}
use mathlib.Core.Path.{◌≡◌, refl, sym, ap, ◌∙◌}
use mathlib.Core.List.{List, []}
use lib.ListN.{length, length-append}
use borrow.Author.Tests.{le-leb, lt-leb}
use native.Mathlib.Omega.{arith}
use native.Mathlib.Nat.{zero-add}
use Rattle.element.specs.Octets.{Octets}
use Rattle.element.specs.Answer.{accepted}
use Rattle.element.specs.Length.{field_size}
use Rattle.element.proofs.LengthLaws as L
use Rattle.component.specs.declared.Id as D
use Rattle.component.specs.declared.Code as E
use Rattle.component.specs.Types.{coding_of}
use Rattle.component.specs.Composed.{set_of}
use Rattle.component.specs.Needed.{element_size, coding_size, body_size, octets_needed}
use Rattle.component.specs.Composing.{Sizes, measured, octets_of, composing}
use Rattle.component.specs.Table.{width, held_from, id_octets, written_code, parameters_from}
use Rattle.component.specs.inner.Emitting.{Put, coded_octets, head_octets, fitting, laid}
use Rattle.component.proofs.Typing.{of_each, two_at_most}
use Rattle.component.proofs.Putting.{none, then}
use Rattle.component.proofs.Sizes.{same_code}
use Rattle.component.proofs.Sizing.{body_size_lem}
use Rattle.component.proofs.Composition.{few_size, code_length}
use Rattle.component.proofs.Emission.{stand}
use Rattle.component.proofs.Room.{all_fit}
use Rattle.component.proofs.Outcome.{found, short_set, octets}

-- the element of a code is a short one
few_coded : (kind : ℕ) → coding_size (coding_of kind) ≤ 4
unfolding coding_size element_size field_size
few_coded = of_each (λ f. coding_size f.coding ≤ 4) (omega arith) (omega arith) (omega arith) (omega arith)

module _ (kind : ℕ) (id : D.Id) (code : E.Code) (set : ℕ) (few : id.count ≤ 2) (short : set ≤ 4096) where
  abbrev bodied : ℕ
  bodied = body_size kind id.count set

  pub short_body : bodied < 65536
  unfolding element_size
  short_body = omega (arith, body_size_lem kind id.count set few, few_coded kind, L.small set refl)

  -- the head takes what the set leaves of the whole
  pub head_length : length (head_octets kind id code bodied set) + set ≡ element_size 1 bodied
  unfolding head_octets coded_octets id_octets element_size
  head_length =
      simp length-append
      (omega (
        arith,
        L.size bodied short_body,
        few_size 0xCF id.count id.first id.second few,
        same_code (coding_of kind) (written_code kind code) (code_length kind code) (omega (arith, few_coded kind)),
        L.size set (omega arith),
        body_size_lem kind id.count set few,
      ))

-- ---- the tests on the way
module _ (kind : ℕ) (id : D.Id) (code : E.Code) (count : ℕ) (t : List ℕ) (source : Octets) (set : ℕ) (out : Octets) where
  abbrev nothing : Type 0
  nothing = Put (laid kind id code count t source set (length out)) 0 out 0 out

  pub no_id : 2 < id.count → nothing
  unfolding laid
  no_id h = simp (lt-leb id.count 2) none

  module _ (few : id.count ≤ 2) where
    pub too_many : 64 < count → nothing
    unfolding laid
    too_many h = simp (le-leb id.count 2, lt-leb count 64) none

    module _ (counted : count ≤ 64) where
      pub too_long : 4096 < set → nothing
      unfolding laid
      too_long h = simp (le-leb id.count 2, le-leb count 64, lt-leb set 4096) none

      module _ (short : set ≤ 4096) where
        pub no_table : length t < width * count → nothing
        unfolding laid
        no_table h = simp (le-leb id.count 2, le-leb count 64, le-leb set 4096, lt-leb (width * count) (length t)) none

        module _ (held : width * count ≤ length t) where
          pub no_room : length out < element_size 1 (body_size kind id.count set) → nothing
          unfolding laid
          no_room h =
              simp (le-leb id.count 2, le-leb count 64, le-leb set 4096, le-leb (width * count) (length t), lt-leb (element_size 1 (body_size kind id.count set)) (length out)) none

          module _ (room : element_size 1 (body_size kind id.count set) ≤ length out) where
            pub head_ready : (id.count ≤ 2) × (body_size kind id.count set < 65536) × (set < 65536)
                × (length (head_octets kind id code (body_size kind id.count set) set) ≤ length out)
            head_ready = (few, short_body kind id code set few short, omega arith, omega (arith, head_length kind id code set few short))

            pub all_laid : {next last : ℕ} {mid after : Octets} → Put (head_octets kind id code (body_size kind id.count set) set) 0 out next mid → length mid ≡ length out →
                Put (fitting source (length mid - next) (held_from 0 count t)) next mid last after → Put (laid kind id code count t source set (length out)) 0 out last after
            unfolding laid
            all_laid {next} {mid = mid} p e q =
                let place : length mid - next ≡ length out - length (head_octets kind id code (body_size kind id.count set) set) = omega (arith, p.place) in
                simp (le-leb id.count 2, le-leb count 64, le-leb set 4096, le-leb (width * count) (length t), le-leb (element_size 1 (body_size kind id.count set)) (length out))
                (then p (rw place at q) (omega arith))

-- ---- what was measured is put down as it is composed
module _ (kind : ℕ) (id : D.Id) (code : E.Code) (count : ℕ) (t : List ℕ) (source : Octets) where
  pub lays : {z : Sizes} → measured kind id count t source ≡ accepted z → {room : ℕ} → z.whole ≤ room →
      composing kind id code count t source room ≡ accepted (laid kind id code count t source z.set room)
  unfolding composing octets_of octets_needed laid
  lays {z} e {room} h =
      let f = found kind id count t source (sym e) in
      let few = two_at_most f.ready.allowed in
      let short = short_set kind id count t source f in
      let body : z.body ≡ body_size kind id.count z.set = f.body_is ∙ ap (body_size kind id.count) (sym f.set_is) in
      let whole : z.whole ≡ element_size 1 (body_size kind id.count z.set) = f.whole_is ∙ rw f.set_is refl in
      let fit : fitting source (room - length (head_octets kind id code (body_size kind id.count z.set) z.set)) (held_from 0 count t) ≡ set_of (parameters_from 0 count t source) =
      all_fit t source 0 count (λ k g. rw zero-add (stand t source count f.ready.entries k g)) (omega (arith, head_length kind id code z.set few short, f.set_is, whole)) in
      simp (f.is, ← f.whole_is, le-leb z.whole room, le-leb id.count 2, le-leb count 64 f.ready.few, le-leb z.set 4096, le-leb (width * count) (length t) f.ready.room, ← whole, fit)
      (ap accepted (rw body at (octets kind id count t source f code [])))
