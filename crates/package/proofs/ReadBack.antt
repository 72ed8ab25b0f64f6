-- What our package writer wrote is a package, and our package reader reads from it what was ordered.
use Prim.Native.Nat.{ℕ, ◌≤◌}
use mathlib.Core.Path.{◌≡◌, refl, sym, ap, subst, ◌∙◌}
use mathlib.Core.List.{List, [], ◌∷◌, ◌++◌, flatten}
use lib.ListN.{length, take, length-append}
use native.Mathlib.Omega.{arith}
use Rattle.element.specs.Octets.{Octets, AreOctets}
use Rattle.element.specs.Answer.{accepted}
use Rattle.element.specs.Length.{shortest}
use Rattle.component.specs.Composed.{element}
use Rattle.component.proofs.Composes.{within, element_of}
use Rattle.component.proofs.Deciding.{behind}
use Rattle.operation.proofs.Again.{inner}
use Rattle.package.specs.Caller.{Order}
use Rattle.package.specs.Grammar.{Sequence, Packaged}
use Rattle.package.specs.Reading.{tables_size}
use Rattle.package.specs.Types.{PackageType, id_size}
use Rattle.package.specs.Writing.{package_octets, package_writing}
use Rattle.package.specs.Demands.{tells, octets_for, Writable, PartsAgain, ReadAgain}
use Rattle.package.specs.Model.{reader, writer}
use Rattle.package.proofs.Standing.{components_stand, ids_again}
use Rattle.package.proofs.Reader.{reader_accepts}
use Rattle.package.proofs.Ordered.{left_in_front}
use Rattle.package.proofs.Writer.{writer_accepts, writes_accepting}
use Rattle.package.proofs.Returned.{all_returned, in_sequence, all_accepted, as_many_octets, carried_again, parts_again}

-- ---- the octets of a package
octets_inside : (head body : Octets) → AreOctets (element head body) → AreOctets body
unfolding element
octets_inside head body o = behind o (head ++ shortest (length body)) body refl

module _ (kind : ℕ) (ids : Octets) (os : List Octets) where
  abbrev ids_element : Octets
  ids_element = element (0xC7 ∷ []) ids

  abbrev sequence : Octets
  sequence = element (0xE8 ∷ []) (flatten os)

  components_octets : AreOctets (package_octets kind ids os) → AreOctets (flatten os)
  unfolding package_octets
  components_octets o = octets_inside (0xE8 ∷ []) (flatten os) (behind (octets_inside (kind ∷ []) (ids_element ++ sequence) o) ids_element sequence refl)

  packaged : PackageType kind → length ids ≡ id_size kind → Sequence os (flatten os) → length (package_octets kind ids os) ≤ 4096 →
      Packaged (record { kind = kind; ids = ids; components = os }) (package_octets kind ids os)
  unfolding package_octets
  packaged typed sized components short =
      let k = within (kind ∷ []) (ids_element ++ sequence) in
      let l = length-append ids_element sequence in
      record {
        ids = ids_element;
        sequence = sequence;
        contents = flatten os;
        typed = typed;
        sized = sized;
        identified = element_of (0xC7 ∷ []) ids (omega arith);
        components = components;
        sequenced = element_of (0xE8 ∷ []) (flatten os) (omega arith);
        whole = element_of (kind ∷ []) (ids_element ++ sequence) short;
      }

-- ---- what was ordered
module _ (o : Order) (out : Octets) {os : List Octets} (w : Writable o out os) (t : List ℕ) (enough : tables_size ≤ length t) where
  read_whole : AreOctets (octets_for o os) → ReadAgain reader o (octets_for o os) t
  unfolding packaged
  read_whole b =
      let s = octets_for o os in
      let c = w.composed in
      let ready = c.ready in
      let (xs, r) = all_returned c.written (components_octets o.kind o.ids os b) in
      let h = packaged o.kind o.ids os ready.typed.kind ready.typed.ids (in_sequence r) w.short in
      let n = as_many_octets r in
      let p = reader_accepts s o.specifiers t (record {
        laid_out = record { enough = enough; within = w.short; packaged = h };
        few = rw n ready.few;
        accepted = all_accepted r;
        carried = carried_again o.kind r c.carried;
      }) in
      record {
        told = tells h xs;
        accepts = ap (λ x. x.answer) p;
        kind = refl;
        ids = ids_again h;
        components =
            subst (λ a. PartsAgain o.source s o.components o.specifiers o.table (tells h xs).components a) (sym (ap (λ x. x.table) p))
            (parts_again s r (components_stand h) t (omega arith));
      }

pub writes_then_reads : (o : Order) (out : Octets) (t : List ℕ) {n : ℕ} → (writer o out).answer ≡ accepted n → tables_size ≤ length t →
    AreOctets (take n (writer o out).output) → ReadAgain reader o (take n (writer o out).output) t
writes_then_reads o out t {n} e enough b =
    let (os, w) = writes_accepting o out e in
    let p : take n (writer o out).output ≡ octets_for o os = inner (sym (left_in_front (package_writing o (length out)) out e) ∙ writer_accepts o out w) in
    rw p (read_whole o out w t enough (rw p at b))
