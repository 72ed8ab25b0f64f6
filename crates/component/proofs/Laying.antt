-- The layout from its steps, wherever the component starts: where its parts stand, and what it comes to by the head's answer.
use Prim.Native.Nat.{ℕ, zero, suc, ◌+◌, ◌<◌, ◌≤◌}
use mathlib.Core.Path.{◌≡◌}
use mathlib.Core.List.{List}
use lib.ListN.{length, get_or}
use borrow.Author.Tests.{le-leb, lt-ltb}
use native.Mathlib.Omega.{arith}
use Rattle.element.specs.Octets.{Octets, AreOctets}
use Rattle.element.specs.Answer.{accepted, refused}
use Rattle.element.proofs.Reading.{most}
use Rattle.component.specs.Types.{Typed, coding_of, typed, id_fits}
use Rattle.component.specs.Table.{Entry, next}
use Rattle.component.specs.Layout.{Span, size_of, contents, wanted, element_from, wanted_from, set_at, Head, code_at, behind_id, body_at, head_from, head_at, parameter_at, parameter_from, parameters, Layout, layout_behind, layout_at}
use Rattle.component.proofs.Ends.{Ends, gives, given, then, ask, below, at_most, equal}
use Rattle.component.proofs.Asking.{Any, any}
use Rattle.component.proofs.Inside.{wanted_inside, set_inside, code_inside}
use Rattle.component.proofs.Typing.{is_known, fitting, most_two}

-- where the parts of a head stand: at most two ID octets, the code with an octet behind it, and the set
pub record Bounded (s : Octets) (h : Head) : Type 0 where
  pub typed : Typed h.kind
  pub short : length s ≤ 4096
  pub ordered : h.id.start ≤ h.id.end
  pub few : h.id.end ≤ h.id.start + 2
  pub inside : h.id.end ≤ length s
  pub coded : h.code + 1 < length s
  pub starts : h.set ≤ length s

pub record Ordered (s : Octets) (l : Layout) : Type 0 where
  pub head : Bounded s l.head
  pub few : length l.entries ≤ 64

-- ---- the steps that are handed out, within 4,096 octets
pub element_within : (s : Octets) (at : ℕ) → length s ≤ 4096 → at < length s → element_from s at ≡ contents s at (at + 1) (length s)
unfolding element_from
element_within s at h k = simp (le-leb (length s) 4096, lt-ltb at (length s))

pub wanted_within : (s : Octets) (octet number at : ℕ) → length s ≤ 4096 → wanted_from s octet number at ≡ wanted s octet number at (length s)
unfolding wanted_from
wanted_within s octet number at h = simp (le-leb (length s) 4096)

pub parameter_within : (s : Octets) (at : ℕ) → length s ≤ 4096 → at < length s → parameter_from s at ≡ parameter_at s at (length s)
unfolding parameter_from
parameter_within s at h k = simp (le-leb (length s) 4096, lt-ltb at (length s))

-- ---- no more parameters than there is room for
parameters_few : (s : Octets) (end room at : ℕ) → Ends (λ es. length es ≤ room) Any (parameters room s at end)
unfolding parameters
parameters_few s end zero at = at_most Any (λ _. tt) λ (_ : end ≤ at). gives (omega arith)
parameters_few s end (suc room) at =
    most (Ends (λ es. length es ≤ suc room) Any) (λ (_ : end ≤ at). gives (omega arith)) λ (_ : at < end).
    then (any (parameter_at s at end)) λ e r.
    then (parameters_few s end room (next e)) λ es f.
    gives (omega arith)

-- ---- the head, and the layout behind it
module _ (s : Octets) (o : AreOctets s) where
  body_ends : length s ≤ 4096 → {kind : ℕ} → Typed kind → (x : Span) → x.end ≡ length s → Ends (Bounded s) Any (body_at s kind x)
  unfolding body_at behind_id
  body_ends short {kind} typed x last =
      then (any (wanted s 0xCF 6 x.start x.end)) λ i a.
      ask Any (id_fits kind (size_of i)) (λ _. tt) λ b.
      then (any (code_at s (coding_of kind) i.end x.end)) λ d e.
      then (any (set_at s d.end x.end)) λ f g.
      let (h, k) = set_inside s o g in
      let w = wanted_inside s o 0xCF 6 a in
      gives (record {
        typed = typed;
        short = short;
        ordered = w.ordered;
        few = omega (arith, (fitting kind _ b).1, most_two kind, w.ordered);
        inside = omega arith;
        coded = omega (arith, code_inside s o (coding_of kind) (omega (arith, w.inside)) e, h.behind, h.ordered);
        starts = omega arith;
      })

  module _ (from : ℕ) where
    head_ends : Ends (Bounded s) Any (head_at s from)
    unfolding head_at head_from
    head_ends =
        below Any (λ _. tt) λ (some : from < length s).
        at_most Any (λ _. tt) λ (short : length s ≤ 4096).
        ask Any (typed (get_or s from 0)) (λ _. tt) λ known.
        then (any (contents s from (from + 1) (length s))) λ x _.
        equal Any (λ _. tt) λ last.
        body_ends short (is_known _ known) x last

    layout_ends : Ends (Ordered s) Any (layout_at s from)
    unfolding layout_at layout_behind
    layout_ends =
        then head_ends λ h b.
        then (parameters_few s (length s) 64 h.set) λ es f.
        gives (record { head = b; few = f })

    pub ordered : {l : Layout} → layout_at s from ≡ accepted l → Ordered s l
    ordered e = given layout_ends e

    -- by the head that was found, and the parameters behind it
    module _ {h : Head} (e : accepted h ≡ head_at s from) where
      pub laid : (es : List Entry) → parameters 64 s h.set (length s) ≡ accepted es → layout_at s from ≡ accepted (record { head = h; entries = es })
      unfolding layout_at layout_behind
      laid es p = rw (← e, p)

      pub not_laid : {n d : ℕ} → parameters 64 s h.set (length s) ≡ refused n d → layout_at s from ≡ refused n d
      unfolding layout_at layout_behind
      not_laid p = rw (← e, p)

    pub no_head : {n d : ℕ} → refused n d ≡ head_at s from → layout_at s from ≡ refused n d
    unfolding layout_at
    no_head e = rw (← e)
