-- Whatever satisfies the demands gives what ours gives: each refusal and each acceptance that they allow is the one that ours has.
use Prim.Native.Nat.{ℕ, zero, suc, ◌+◌, ◌<◌, ◌≤◌}
use mathlib.Core.Path.{◌≡◌, refl, sym, ap, ap₂, ◌∙◌}
use mathlib.Core.List.{List, map}
use mathlib.Core.Logic.{⊎_elim}
use lib.ListN.{length}
use lib.Dec.{leb}
use borrow.Author.Tests.{le-leb, lt-leb}
use native.Mathlib.Decide.{dec_lt}
use native.Mathlib.Omega.{arith}
use Rattle.element.specs.Octets.{Octets, AreOctets}
use Rattle.element.specs.Answer.{Answer, accepted, refused, ◌>>=◌, ◌>>◌, check}
use Rattle.component.specs.Layout.{Layout, layout_of, operation_place}
use Rattle.component.specs.Grammar.{Parameter, Component}
use Rattle.component.specs.Faults.{LaidOut}
use Rattle.component.specs.Standing.{standing, operation_at}
use Rattle.component.specs.Composed.{composed}
use Rattle.component.specs.Table.{table_size, table_with, held_from, parameters_from}
use Rattle.component.specs.Composing.{taken_from, entries_from, entries_of, octets_of}
use Rattle.element.specs.Output.{written, output_after}
use Rattle.component.specs.Needed.{octets_needed}
use Rattle.component.proofs.Complete.{Reads, complete}
use Rattle.component.proofs.Entries.{stands_true, stands_false, as_many}
use Rattle.component.proofs.Refusing.{refuses}
use Rattle.component.proofs.Typing.{known, unknown, fits, misfits}
use Rattle.operation.specs.Row.{Row}
use Rattle.operation.specs.Finding.{row_of}
use Rattle.operation.specs.Faults.{RowFault}
use Rattle.operation.specs.Items.{item_of}
use Rattle.operation.specs.Reading.{operation_in, reading, reading_at, table_after}
use Rattle.operation.specs.Writing.{writing}
use Rattle.operation.specs.Caller.{read, wrote, Told, Reader, Order, Writer}
use Rattle.operation.specs.Told.{told}
use Rattle.operation.specs.Demands.{its_operation, ReaderRefuses, Right, tells, Stands, ordered, made, Held, Ready, WriterRefuses, Writable, Demand1, Demand2}
use Rattle.operation.specs.Model.{reader, writer, written_as, OnlyOne}
use Rattle.operation.proofs.Readings.{same_operation, either_row, anywhere, reads, no_row}
use Rattle.operation.proofs.RowsFound.{its_row, no_row_found}
use Rattle.operation.proofs.Keys.{counts_read, fits_read}
use Rattle.operation.proofs.RowFaults.{row_refuses, exact}

-- 11 points wherever it is told to
nowhere : (kind specifier : ℕ) → row_of kind specifier 0 ≡ refused 11 0 → (at : ℕ) → row_of kind specifier at ≡ refused 11 at
nowhere kind specifier e at =
    ⊎_elim (λ (row, f). let g = f 0 in let z : ◌≡◌ {A = ℕ} 0 1 = cc in absurd (omega arith)) (λ f. f at) (either_row kind specifier)

-- ---- the reader
module _ (s : Octets) (o : AreOctets s) (given : ℕ) (t : List ℕ) where
  -- a component laid out, as ours reads it
  module _ {c : Component} (enough : table_size ≤ length t) (h : LaidOut c s) where
    its_layout : (l : Layout) × (layout_of s ≡ accepted l) × Reads h.laid l
    its_layout = complete h.laid h.within h.few

    faults : {row : Row} {n d : ℕ} → row_of c.kind (its_operation c given) 0 ≡ accepted row → RowFault row (map item_of (standing h.laid)) n d →
        reading s given (length t) ≡ refused n d
    faults {row} has_row f =
        let (l, e, r) = its_layout in
        let k : row_of l.head.kind (operation_in s l.head given) 0 ≡ accepted row = cc (same_operation r.outlines given, r.outlines.kind) in
        reads s given (length t) enough e (anywhere _ _ 0 k (operation_place l.head)) ∙ rw (r.entries, row_refuses f)

    rowless : row_of c.kind (its_operation c given) 0 ≡ refused 11 0 → reading s given (length t) ≡ refused 11 (operation_at h.laid)
    rowless none =
        let (l, e, r) = its_layout in
        let k : row_of l.head.kind (operation_in s l.head given) 0 ≡ refused 11 0 = cc (same_operation r.outlines given, r.outlines.kind) in
        no_row s given (length t) enough e (nowhere _ _ k (operation_place l.head)) ∙ ap (λ k. refused 11 k) r.operation

  pub reader_refuses : {n d : ℕ} → ReaderRefuses s given t n d → reading s given (length t) ≡ refused n d
  unfolding reading_at
  reader_refuses (ReaderRefuses.table h) = rw (lt-leb table_size (length t) h)
  reader_refuses (ReaderRefuses.fault h f) = rw (le-leb table_size (length t) h, refuses o f)
  reader_refuses (ReaderRefuses.no_row h l e) = rowless h l (no_row_found _ _ e)
  reader_refuses (ReaderRefuses.misfit h l e f) = faults h l (its_row _ _ _ e) f

  pub refused_so : {n d : ℕ} → reading s given (length t) ≡ refused n d → reader s given t ≡ read (refused n d) t
  unfolding told table_after
  refused_so e = rw e

  pub reader_accepts : {c : Component} {row : Row} (r : Right s given t c row) →
      reader s given t ≡ read (accepted (tells given c row)) (table_with (standing r.laid_out.laid) t)
  unfolding told table_after
  reader_accepts {c} {row} r =
      let (l, e, q) = its_layout r.enough r.laid_out in
      let u = q.outlines in
      let k : row_of l.head.kind (operation_in s l.head given) 0 ≡ accepted row = cc (same_operation u given, u.kind, its_row _ _ _ r.has_row) in
      let j = (fits_read row u.shows).1 r.fits in
      let f = reads s given (length t) r.enough e (anywhere _ _ 0 k (operation_place l.head)) in
      let (named, other) = counts_read row u.shows in
      ap₂ read (rw (f, j, named, other, u.code, u.kind, u.id, as_many u.shows)) (rw (f, j, q.entries))

-- ---- the writer
module _ (o : Order) where
  entries_all : (i n : ℕ) → ((j : ℕ) → j < i + n → i ≤ j → Stands o j) →
      entries_from i n o.table o.source ≡ accepted (parameters_from i n o.table o.source)
  unfolding taken_from held_from parameters_from
  entries_all i zero h = refl
  entries_all i (suc n) h = rw (stands_true (h i (omega arith) (omega arith)), entries_all (i + 1) n (λ j k l. h j (omega arith) (omega arith)))

  entries_first : (i n : ℕ) {bad : ℕ} → i ≤ bad → bad < i + n → ((j : ℕ) → j < bad → Stands o j) → (Stands o bad → ⊥) →
      entries_from i n o.table o.source ≡ refused 16 bad
  unfolding taken_from held_from
  entries_first i zero h k s b = absurd (omega arith)
  entries_first i (suc n) {bad} h k s b = go (dec_lt i bad) (λ l. entries_first (i + 1) n (omega arith) (omega arith) s b)
    where
      go : Dec (i < bad) → (i < bad → entries_from (i + 1) n o.table o.source ≡ refused 16 bad) → entries_from i (suc n) o.table o.source ≡ refused 16 bad
      go (yes l) later = rw (stands_true (s i l), later l)
      go (no l) later = let e : bad ≡ i = omega arith in rw (stands_false (rw e at b)) (ap (λ k. refused 16 k) (sym e))

module _ (o : Order) where
  abbrev entries : Answer (List Parameter)
  entries = entries_of o.kind o.id o.count o.table o.source

  -- the steps up to the entries
  module _ (h : Held o) where
    held : {a : Answer (List Parameter)} → entries_from 0 o.count o.table o.source ≡ a →
        entries ≡ (a >>= λ ps. check (leb (octets_needed o.kind o.id.count ps) 4096) 15 (octets_needed o.kind o.id.count ps) >> accepted ps)
    unfolding entries_of
    held e = rw (known h.allowed.0, fits h.allowed, le-leb _ _ h.few, le-leb _ _ h.table, e)

  all_stand : ((i : ℕ) → i < o.count → Stands o i) → entries_from 0 o.count o.table o.source ≡ accepted (ordered o)
  all_stand h = entries_all o 0 o.count (λ j k _. h j (omega arith))

  pub ready : Ready o → entries ≡ accepted (ordered o)
  ready r = held r.held (all_stand r.stand) ∙ rw (le-leb _ _ r.short)

  pub writer_refuses : (out : Octets) {n d : ℕ} → WriterRefuses o out n d → written_as o (length out) ≡ refused n d
  unfolding writing entries_of octets_of
  writer_refuses out (WriterRefuses.no_type h) = rw (unknown h)
  writer_refuses out (WriterRefuses.no_id h k) = rw (known h, misfits h k)
  writer_refuses out (WriterRefuses.too_many h k) = rw (known h.0, fits h, lt-leb _ _ k)
  writer_refuses out (WriterRefuses.no_table h k l) = rw (known h.0, fits h, le-leb _ _ k, lt-leb _ _ l)
  writer_refuses out (WriterRefuses.no_entry h k s b) = rw (held h (entries_first o 0 o.count (omega arith) (omega arith) s b))
  writer_refuses out (WriterRefuses.too_long h s k) = rw (held h (all_stand s), lt-leb _ _ k)
  writer_refuses out (WriterRefuses.no_row r e) = rw (ready r, no_row_found _ _ e)
  writer_refuses out (WriterRefuses.misfit r e f) = rw (ready r, its_row _ _ _ e, row_refuses f)
  writer_refuses out (WriterRefuses.no_room r e f k) = rw (ready r, its_row _ _ _ e, (exact _ _).1 f, lt-leb _ _ k)

  pub writer_accepts : (out : Octets) {row : Row} → Writable o out row → written_as o (length out) ≡ accepted (composed (made o))
  unfolding writing octets_of
  writer_accepts out {row} h = rw (ready h.ready, its_row _ _ _ h.has_row, (exact row _).1 h.fits, le-leb _ _ h.room)

-- ---- there is no other
module _ (r : Reader) (w : Writer) (first : Demand1 r w) (second : Demand2 r w) where
  one_reader : (s : Octets) (given : ℕ) (t : List ℕ) → AreOctets s → r s given t ≡ reader s given t
  one_reader s given t o = go (r s given t).answer refl
    where
      go : (a : Answer Told) → (r s given t).answer ≡ a → r s given t ≡ reader s given t
      go (accepted x) e = let (c, row, h) = second.reader s given t o e in second.shown s given t o h ∙ sym (reader_accepts s o given t h)
      go (refused n d) e = let (f, q) = first.reader s given t o e in ap₂ read e q ∙ sym (refused_so s o given t (reader_refuses s o given t f))

  one_writer : (o : Order) (out : Octets) → w o out ≡ writer o out
  unfolding written output_after
  one_writer o out = go (w o out).answer refl
    where
      go : (a : Answer ℕ) → (w o out).answer ≡ a → w o out ≡ writer o out
      go (accepted n) e = let (row, h) = second.writer o out e in second.written o out h ∙ rw (writer_accepts o out h)
      go (refused n d) e = let (g, q) = first.writer o out e in ap₂ wrote e q ∙ rw (writer_refuses o out g)

pub only_one : OnlyOne
unfolding OnlyOne
only_one r w d = (one_reader r w d.first d.second, one_writer r w d.first d.second)
