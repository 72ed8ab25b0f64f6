-- What is composed once the sizes are known: the outcome, and the octets that are put down.
use Prim.Native.Nat.{ℕ, ◌+◌, ◌*◌, ◌<◌, ◌≤◌}
use mathlib.Core.Path.{◌≡◌, refl, sym, ap, ◌∙◌}
use mathlib.Core.List.{List, ◌++◌}
use lib.ListN.{length, length-append}
use borrow.Author.Tests.{le-leb, lt-leb}
use native.Mathlib.Omega.{arith}
use native.Mathlib.Nat.{zero-add}
use Rattle.element.specs.Octets.{Octets}
use Rattle.element.specs.Answer.{Answer, accepted, refused}
use Rattle.element.specs.Field.{put}
use Rattle.component.specs.declared.Id as D
use Rattle.component.specs.declared.Code as E
use Rattle.component.specs.Composed.{set_of, composed}
use Rattle.component.specs.Needed.{set_size, body_size, octets_needed}
use Rattle.component.specs.Composing.{entries_of, Sizes, sizes_of, measured, octets_of, composing}
use Rattle.element.specs.Output.{written, output_after}
use Rattle.component.specs.Table.{width, parameters_from, component_of}
use Rattle.component.specs.inner.Emitting.{Put, head_octets, AllStand}
use Rattle.component.proofs.Typing.{two_at_most}
use Rattle.component.proofs.Putting.{then}
use Rattle.component.proofs.Composition as composition
use Rattle.component.proofs.Taken.{taken, stopped}
use Rattle.component.proofs.Measuring.{Ready, ready}
use Rattle.component.proofs.Emission.{listed, stand}

abbrev Outcome : (a : Answer Octets) (out : Octets) (told : Answer ℕ) (after : Octets) → Type 0
Outcome a out told after = (told ≡ written a) × (after ≡ output_after out a)

unchanged : {a : Answer Octets} (out : Octets) {n d : ℕ} → a ≡ refused n d → Outcome a out (refused n d) out
unfolding written output_after
unchanged out e = rw e (refl, refl)

changed : {a : Answer Octets} {s out : Octets} {last : ℕ} {after : Octets} → Put s 0 out last after → a ≡ accepted s →
    Outcome a out (accepted last) after
unfolding written output_after put
changed {s = s} {out = out} p e = rw e (ap accepted (p.place ∙ zero-add (length s)), p.octets ∙ rw zero-add refl)

module _ (kind : ℕ) (id : D.Id) (count : ℕ) (t : List ℕ) (source : Octets) where
  -- what the sizes say of the entries
  pub record Found (whole body set : ℕ) : Type 0 where
    pub is : entries_of kind id count t source ≡ accepted (parameters_from 0 count t source)
    pub ready : Ready kind id count t source (parameters_from 0 count t source)
    pub whole_is : whole ≡ octets_needed kind id.count (parameters_from 0 count t source)
    pub body_is : body ≡ body_size kind id.count (set_size (parameters_from 0 count t source))
    pub set_is : set ≡ set_size (parameters_from 0 count t source)

  pub found : {whole body set : ℕ} → accepted (record { whole = whole; body = body; set = set }) ≡ measured kind id count t source → Found whole body set
  unfolding measured
  found {whole} {body} {set} e =
      let (ps, x, y) = taken (entries_of kind id count t source) (sym e) in
      let r = ready kind id count t source x in
      let l = listed t source 0 count r.entries in
      let z : sizes_of kind id.count ps ≡ record { whole = whole; body = body; set = set } = cc in
      record {
        is = rw (← l) x;
        ready = rw (← l) r;
        whole_is = rw (← l) (sym (ap (λ (s : Sizes). s.whole) z));
        body_is = rw (← l) (sym (ap (λ (s : Sizes). s.body) z));
        set_is = rw (← l) (sym (ap (λ (s : Sizes). s.set) z));
      }

  pub refusal : (code : E.Code) (out : Octets) {n d : ℕ} → refused n d ≡ measured kind id count t source →
      Outcome (composing kind id code count t source (length out)) out (refused n d) out
  unfolding measured composing
  refusal code out e =
      unchanged out (stopped (entries_of kind id count t source) (sizes_of kind id.count) (λ ps. octets_of kind id code ps (length out)) (sym e))

  module _ {whole body set : ℕ} (f : Found whole body set) where
    pub short : whole ≤ 4096
    short = rw f.whole_is f.ready.short

    pub short_set : set ≤ 4096
    short_set = rw f.set_is (composition.short_set kind id.count (parameters_from 0 count t source) f.ready.short)

    module _ (code : E.Code) (out : Octets) where
      pub no_room : length out < whole → Outcome (composing kind id code count t source (length out)) out (refused 17 whole) out
      unfolding composing octets_of
      no_room h = unchanged out (simp (f.is, ← f.whole_is, lt-leb whole (length out) h))

      pub octets : composed (component_of kind id code (parameters_from 0 count t source))
          ≡ head_octets kind id code body set ++ set_of (parameters_from 0 count t source)
      octets = rw (f.body_is, f.set_is) (composition.parts kind id code (parameters_from 0 count t source) f.ready.allowed f.ready.short)

      lengths : length (head_octets kind id code body set) + length (set_of (parameters_from 0 count t source)) ≡ whole
      lengths =
          sym (length-append (head_octets kind id code body set) (set_of (parameters_from 0 count t source))) ∙ ap length (sym octets)
          ∙ composition.whole kind id code (parameters_from 0 count t source) f.ready.allowed f.ready.short ∙ sym f.whole_is

      module _ (h : whole ≤ length out) where
        pub head_ready : (id.count ≤ 2) × (body < 65536) × (set < 65536) × (length (head_octets kind id code body set) ≤ length out)
        head_ready =
            let s : body ≤ 4096 = rw f.body_is (composition.short_body kind id.count (parameters_from 0 count t source) f.ready.short) in
            (two_at_most f.ready.allowed, omega arith, omega (arith, short_set), omega (arith, lengths))

        module _ {next : ℕ} {mid : Octets} (p : Put (head_octets kind id code body set) 0 out next mid) where
          pub set_ready : length mid ≡ length out → (count ≤ 64) × (width * count ≤ length t) × AllStand count t source
              × (next + length (set_of (parameters_from 0 count t source)) ≤ length mid)
          set_ready e = (f.ready.few, f.ready.room, stand t source count f.ready.entries, omega (arith, lengths, p.place))

          pub all_put : {last : ℕ} {after : Octets} → Put (set_of (parameters_from 0 count t source)) next mid last after →
              Outcome (composing kind id code count t source (length out)) out (accepted last) after
          unfolding composing octets_of
          all_put q = changed (rw (← octets) at (then p q (omega arith))) (simp (f.is, ← f.whole_is, le-leb whole (length out) h))
