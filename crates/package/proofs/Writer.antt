-- Our package writer refuses and accepts as the demands say, and whatever satisfies their part of a writer gives what ours gives.
use Prim.Native.Nat.{ℕ}
use mathlib.Core.Path.{◌≡◌, refl, ap, ap₂, ◌∙◌}
use mathlib.Core.Bool.{Bool, true, false, ◌&&◌}
use mathlib.Core.List.{List}
use mathlib.Core.Logic.{⊎_elim}
use lib.ListN.{length}
use lib.Dec.{eqb}
use borrow.Author.Tests.{le-leb, lt-leb, eq-eqb, ne_eqb}
use native.Mathlib.Decide.{dec_le, ℕ_discrete}
use native.Mathlib.Omega.{arith}
use Rattle.element.specs.Octets.{Octets}
use Rattle.element.specs.Answer.{Answer, accepted, refused, ◌>>=◌, ◌>>◌}
use Rattle.element.specs.Output.{written, output_after}
use Rattle.component.proofs.Deciding.{Decided, fine, fault, then, was_fault, was_fine, ask, dec_between}
use Rattle.operation.specs.Caller.{wrote}
use Rattle.operation.specs.Demands.{puts}
use Rattle.package.specs.Caller.{Reader, Order, Writer}
use Rattle.package.specs.Types.{U, CWO, package_type, id_size}
use Rattle.package.specs.Reading.{tables_size}
use Rattle.package.specs.Writing.{write_each, carried_as, laid_down, package_writing}
use Rattle.package.specs.Demands.{octets_for, Typed, Ready, Composed, WriterRefuses, Writable, Demand1, Demand2}
use Rattle.package.specs.Model.{writer}
use Rattle.package.proofs.Steps.{known, unknown, is_few, not_few}
use Rattle.package.proofs.Ordered.{all_written, one_unwritten, written_or_not, parts_carried, part_uncarried, carried_or_not}

module _ (o : Order) where
  dec_typed : Dec (Typed o)
  dec_typed =
      ask (dec_between U o.kind CWO) (λ k.
      ask (ℕ_discrete (length o.ids) (id_size o.kind)) (λ i. yes (record { kind = k; ids = i })) λ n. no λ t. n t.ids) λ n. no λ t. n t.kind

  abbrev typed_test : Bool
  typed_test = package_type o.kind && eqb (length o.ids) (id_size o.kind)

  is_typed : Typed o → typed_test ≡ true
  is_typed t = rw (known t.kind, eq-eqb _ _ t.ids)

  not_typed : (Typed o → ⊥) → typed_test ≡ false
  not_typed n =
      ask (dec_between U o.kind CWO)
      (λ k. rw (known k, ne_eqb (length o.ids) (id_size o.kind) (λ i. n (record { kind = k; ids = i }))))
      (λ m. rw (unknown m))

  -- the steps up to the components
  begun : (room : ℕ) → Ready o → package_writing o room ≡
      (write_each o.components o.specifiers o.table o.source >>= λ os.
      carried_as o.kind 0 o.components o.specifiers >> laid_down o.kind o.ids os room)
  unfolding package_writing
  begun room r = rw (le-leb tables_size (length o.table) r.enough, is_typed r.typed, is_few r.few)

  -- and up to the sizes
  composed : (room : ℕ) {os : List Octets} → Composed o os → package_writing o room ≡ laid_down o.kind o.ids os room
  composed room c = begun room c.ready ∙ rw (all_written o.source c.written, parts_carried o.kind 0 c.carried)

  module _ (out : Octets) where
    pub writer_refuses : {n d : ℕ} → WriterRefuses o out n d → package_writing o (length out) ≡ refused n d
    unfolding package_writing laid_down
    writer_refuses (WriterRefuses.no_table h) = rw (lt-leb tables_size (length o.table) h)
    writer_refuses (WriterRefuses.untyped h n) = rw (le-leb tables_size (length o.table) h, not_typed n)
    writer_refuses (WriterRefuses.miscounted h t n) = rw (le-leb tables_size (length o.table) h, is_typed t, not_few n)
    writer_refuses (WriterRefuses.refused_inside r f) = begun (length out) r ∙ rw (one_unwritten o.source f)
    writer_refuses (WriterRefuses.carriage r a f) = begun (length out) r ∙ rw (all_written o.source a, part_uncarried o.kind f)
    writer_refuses (WriterRefuses.too_long c h) = composed (length out) c ∙ rw (lt-leb _ 4096 h)
    writer_refuses (WriterRefuses.no_room c h k) = composed (length out) c ∙ rw (le-leb _ 4096 h, lt-leb _ (length out) k)

    pub writer_accepts : {os : List Octets} → Writable o out os → package_writing o (length out) ≡ accepted (octets_for o os)
    unfolding laid_down
    writer_accepts h = composed (length out) h.composed ∙ rw (le-leb _ 4096 h.short, le-leb _ (length out) h.room)

    -- ---- and there is no third
    abbrev Outcome : Type 0
    Outcome = Decided ((os : List Octets) × Writable o out os) (WriterRefuses o out)

    sized_or_not : {os : List Octets} → Composed o os → Outcome
    sized_or_not {os} c =
        ask (dec_le (length (octets_for o os)) 4096) (λ short.
        ask (dec_le (length (octets_for o os)) (length out)) (λ room. fine (os, record { composed = c; short = short; room = room }))
        (λ n. fault (WriterRefuses.no_room c short (omega arith))))
        (λ n. fault (WriterRefuses.too_long c (omega arith)))

    composed_or_not : Ready o → Outcome
    composed_or_not r =
        then (written_or_not o.source o.components o.specifiers o.table) (λ n d f. WriterRefuses.refused_inside r f) λ (os, a).
        ⊎_elim (λ c. sized_or_not (record { ready = r; written = a; carried = c })) (λ (d, f). fault (WriterRefuses.carriage r a f))
        (carried_or_not o.kind 0 o.components o.specifiers)

    writer_either : Outcome
    writer_either =
        ask (dec_le tables_size (length o.table)) (λ enough.
        ask dec_typed (λ typed.
        ask (dec_between 1 (length o.components) 8) (λ few. composed_or_not (record { enough = enough; typed = typed; few = few }))
        (λ n. fault (WriterRefuses.miscounted enough typed n)))
        (λ n. fault (WriterRefuses.untyped enough n)))
        (λ n. fault (WriterRefuses.no_table (omega arith)))

    -- ---- the demands' part of a writer, of ours
    pub writes_well : {os : List Octets} → Writable o out os → writer o out ≡ puts (octets_for o os) out
    unfolding written output_after
    writes_well h = rw (writer_accepts h)

    answers_refusing : (n d : ℕ) → WriterRefuses o out n d → (writer o out).answer ≡ refused n d
    unfolding written
    answers_refusing n d f = rw (writer_refuses f)

    pub writes_refusing : {n d : ℕ} → (writer o out).answer ≡ refused n d → WriterRefuses o out n d × ((writer o out).output ≡ out)
    unfolding output_after
    writes_refusing e =
        let f = was_fault writer_either (λ (os, h). (_, ap (λ w. w.answer) (writes_well h))) answers_refusing e in
        (f, rw (writer_refuses f))

    pub writes_accepting : {n : ℕ} → (writer o out).answer ≡ accepted n → (os : List Octets) × Writable o out os
    writes_accepting e = was_fine writer_either answers_refusing e

-- ---- and of any other
module _ (r : Reader) (w : Writer) (first : Demand1 r w) (second : Demand2 r w) where
  pub one_writer : (o : Order) (out : Octets) → w o out ≡ writer o out
  unfolding written output_after
  one_writer o out = go (w o out).answer refl
    where
      go : (a : Answer ℕ) → (w o out).answer ≡ a → w o out ≡ writer o out
      go (accepted n) e = let (os, h) = second.writer o out e in second.written o out h ∙ rw (writer_accepts o out h)
      go (refused n d) e = let (g, q) = first.writer o out e in ap₂ wrote e q ∙ rw (writer_refuses o out g)
