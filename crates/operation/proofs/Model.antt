-- Ours satisfies the demands.
use Prim.Native.Nat.{ℕ, zero, suc, ◌+◌, ◌*◌, ◌<◌, ◌≤◌}
use mathlib.Core.Path.{◌≡◌, refl, sym, ap, ◌∙◌}
use mathlib.Core.List.{List, map}
use mathlib.Core.Logic.{◌⊎◌, inl, inr, ⊎_elim}
use lib.ListN.{length, get_or, take, drop}
use borrow.Author.Tests.{ne_eqb}
use lib.Seq.{take-append_seam}
use native.Mathlib.Decide.{dec_lt, dec_le, ℕ_discrete}
use native.Mathlib.Omega.{arith}
use Rattle.element.specs.Octets.{Octets, AreOctets}
use Rattle.element.specs.Answer.{Answer, accepted, refused}
use Rattle.component.specs.Layout.{Layout, layout_of, operation_place}
use Rattle.component.specs.Grammar.{Laid, Component}
use Rattle.component.specs.Standing.{Shows, Pairwise}
use Rattle.component.specs.Composed.{composed}
use Rattle.component.specs.Table.{width, table_size, held, held_from, parameters_from, code_of, written_code, component_of}
use Rattle.component.specs.declared.Code as E
use Rattle.component.specs.Types.{Typed, format_of}
use Rattle.element.specs.Output.{written, output_after}
use Rattle.component.proofs.Ends.{Ends, gives, given as ends_given, stopped, then, at_most}
use Rattle.component.proofs.Asking.{answered}
use Rattle.component.proofs.Taken.{taken, refused_in}
use Rattle.component.proofs.Making.{makes}
use Rattle.component.proofs.Composes.{composes}
use Rattle.component.proofs.Shortening.{shorter}
use Rattle.component.proofs.Entries.{as_many, holds, shown_are}
use Rattle.component.proofs.Shown.{standing_show}
use Rattle.component.proofs.Complete.{Reads}
use Rattle.component.proofs.Typing.{of_typed}
use Rattle.component.proofs.Deciding.{ask, dec_typed, dec_allowed}
use Rattle.component.proofs.OneFault.{laid_out, faulty}
use Rattle.component.proofs.Decoding.{functional}
use Rattle.operation.specs.Row.{Row}
use Rattle.operation.specs.Judge.{judge}
use Rattle.operation.specs.Finding.{row_of}
use Rattle.operation.specs.Reading.{Shown, operation_in, reading, reading_at, shown_of}
use Rattle.operation.specs.Items.{item_of, items_of}
use Rattle.operation.specs.Codes.{operation_of, told_code, heeded}
use Rattle.operation.specs.Caller.{Told, Order}
use Rattle.operation.specs.Told.{told_of, told}
use Rattle.operation.specs.Demands.{RowFor, its_operation, octets_for, puts, handed, WrittenAgain, ReadAgain, ReaderRefuses, Right, tells, Stands, ordered, needed, made, Held, Ready, WriterRefuses, Writable, Demand1, Demand2}
use Rattle.operation.specs.Model.{reader, writer}
use Rattle.operation.proofs.Readings.{same_operation, either_row, row_ends}
use Rattle.operation.proofs.RowsFound.{has_row, has_none}
use Rattle.operation.proofs.Keys.{fits_read}
use Rattle.operation.proofs.RowFaults.{row_faulty, row_either}
use Rattle.operation.proofs.Again.{inner, composes_again, same_or_shorter}
use Rattle.operation.proofs.OnlyOne.{reader_accepts, refused_so, ready, writer_refuses, writer_accepts}

-- ---- the reader: what is refused is to be refused, and what is accepted is right
module _ (s : Octets) (o : AreOctets s) where
  same_row : {c : Component} {h : Laid c s} {l : Layout} {x : Answer Row} (given : ℕ) → Reads h l → row_of l.head.kind (operation_in s l.head given) 0 ≡ x →
      row_of c.kind (its_operation c given) 0 ≡ x
  same_row given q e = cc (same_operation q.outlines given, q.outlines.kind)

  module _ (given : ℕ) (t : List ℕ) where
    abbrev Rightly : Shown → Type 0
    Rightly _ = (c : Component) × (row : Row) × Right s given t c row

    reader_ends : Ends Rightly (ReaderRefuses s given t) (reading s given (length t))
    unfolding reading_at shown_of
    reader_ends =
        let Q = ReaderRefuses s given t in
        at_most Q ReaderRefuses.table λ (enough : table_size ≤ length t).
        then (answered Q (layout_of s) λ n d e. ReaderRefuses.fault enough (faulty s o e)) λ l e.
        let (c, h, q) = laid_out s o e in
        then (row_ends Q l.head.kind (operation_in s l.head given) (operation_place l.head) λ f. rw q.operation (ReaderRefuses.no_row enough h (has_none _ _ (same_row given q f)))) λ row r.
        let its : RowFor c.kind (its_operation c given) row = has_row _ _ _ (same_row given q (r 0)) in
        then (answered Q (judge row (map item_of l.entries)) λ n d f. ReaderRefuses.misfit enough h its (row_faulty row _ (rw q.entries at f))) λ _ j.
        gives (c, row, record { enough = enough; laid_out = h; has_row = its; fits = (fits_read row q.outlines.shows).0 j })

    read_back : {n d : ℕ} → (reader s given t).answer ≡ refused n d → reading s given (length t) ≡ refused n d
    unfolding told
    read_back e = refused_in (reading s given (length t)) told_of e

    refuses_rightly : {n d : ℕ} → (reader s given t).answer ≡ refused n d → ReaderRefuses s given t n d × ((reader s given t).table ≡ t)
    refuses_rightly e = let f = read_back e in (stopped reader_ends f, ap (λ x. x.table) (refused_so s o given t f))

    accepts_rightly : {x : Told} → (reader s given t).answer ≡ accepted x → (c : Component) × (row : Row) × Right s given t c row
    unfolding told
    accepts_rightly e = let (x, f, _) = taken (reading s given (length t)) e in given_right f
      where
        given_right : {x : Shown} → reading s given (length t) ≡ accepted x → Rightly x
        given_right f = ends_given reader_ends f

    -- what is told of a component laid out
    told_right : {x : Told} {c : Component} {row : Row} → (reader s given t).answer ≡ accepted x → Right s given t c row → tells given c row ≡ x
    told_right e r = inner (sym (ap (λ x. x.answer) (reader_accepts s o given t r)) ∙ e)

    pub told_of_lem : {x : Told} {c : Component} → (reader s given t).answer ≡ accepted x → Laid c s → (row : Row) × Right s given t c row × (tells given c row ≡ x)
    told_of_lem e h =
        let (d, row, r) = accepts_rightly e in
        let q = rw (functional r.laid_out.laid h) at r in
        (row, q, told_right e q)

    places : {c : Component} {row : Row} → Right s given t c row →
        Pairwise (Shows s) (held_from 0 (length c.parameters) (reader s given t).table) c.parameters
    places r =
        let shows = standing_show r.laid_out.laid in
        rw (ap (λ x. x.table) (reader_accepts s o given t r), ← as_many shows, holds _ t) shows

-- ---- the writer: each question of its list, and what follows
module _ (o : Order) where
  dec_entry : (i : ℕ) → Dec (Stands o i)
  dec_entry i =
      let e = held o.table i in
      ask (dec_le e.number 16383) (λ a.
      ask (dec_le e.form 1) (λ b.
      ask (dec_le (e.start + e.size) (length o.source)) (λ c.
      yes (record { number = a; form = b; content = c })) λ n. no λ h. n h.content) λ n. no λ h. n h.form) λ n. no λ h. n h.number

  -- the entries below `n` stand, or one is the lowest that does not
  abbrev Lowest : ℕ → Type 0
  Lowest n = ((i : ℕ) → i < n → Stands o i) ⊎ ((i : ℕ) × (i < n) × ((j : ℕ) → j < i → Stands o j) × (Stands o i → ⊥))

  lowest : (n : ℕ) → Lowest n
  lowest zero = inl λ i h. absurd (omega arith)
  lowest (suc n) = go (lowest n)
    where
      below : ((i : ℕ) → i < n → Stands o i) → Stands o n → (i : ℕ) → Dec (i < n) → i < suc n → Stands o i
      below h e i (yes k) l = h i k
      below h e i (no k) l = let p : n ≡ i = omega arith in rw p at e

      go : Lowest n → Lowest (suc n)
      go (inl h) = ask (dec_entry n) (λ e. inl λ i k. below h e i (dec_lt i n) k) λ m. inr (n, omega arith, h, m)
      go (inr (i, k, h, m)) = inr (i, omega arith, h, m)

  module _ (out : Octets) where
    abbrev Outcome : Type 0
    Outcome = ((row : Row) × Writable o out row) ⊎ ((n : ℕ) × (d : ℕ) × WriterRefuses o out n d)

    fits_or_not : Ready o → {row : Row} → RowFor o.kind o.code.first row → Outcome
    fits_or_not r {row} e =
        ⊎_elim (λ (n, d, f). inr (n, d, WriterRefuses.misfit r e f)) (λ f.
        ask (dec_le (needed o) (length out))
        (λ h. inl (row, record { ready = r; has_row = e; fits = f; room = h }))
        (λ n. inr (17, needed o, WriterRefuses.no_room r e f (omega arith)))) (row_either row (items_of 0 (ordered o)))

    row_or_not : Ready o → Outcome
    row_or_not r = ⊎_elim (λ (row, f). fits_or_not r (has_row _ _ row (f 0))) (λ f. inr (11, 0, WriterRefuses.no_row r (has_none _ _ (f 0)))) (either_row o.kind o.code.first)

    held_or_not : Held o → Outcome
    held_or_not h =
        ⊎_elim (λ s. ask (dec_le (needed o) 4096)
        (λ k. row_or_not (record { held = h; stand = s; short = k }))
        (λ n. inr (15, needed o, WriterRefuses.too_long h s (omega arith))))
        (λ (i, k, l, m). inr (16, i, WriterRefuses.no_entry h k l m)) (lowest o.count)

    writer_either : Outcome
    writer_either =
        ask (dec_typed o.kind) (λ typed.
        ask (dec_allowed o.kind o.id.count typed) (λ allowed.
        ask (dec_le o.count 64) (λ few.
        ask (dec_le (width * o.count) (length o.table)) (λ table.
        held_or_not (record { allowed = allowed; few = few; table = table }))
        (λ n. inr (1, 0, WriterRefuses.no_table allowed few (omega arith))))
        (λ n. inr (10, 0, WriterRefuses.too_many allowed (omega arith))))
        (λ n. inr (6, 0, WriterRefuses.no_id typed n)))
        (λ n. inr (3, 0, WriterRefuses.no_type n))

    writes_refusing : {n d : ℕ} → (writer o out).answer ≡ refused n d → WriterRefuses o out n d × ((writer o out).output ≡ out)
    unfolding written output_after
    writes_refusing {n} {d} e = go writer_either
      where
        go : Outcome → WriterRefuses o out n d × ((writer o out).output ≡ out)
        go (inl (row, h)) = let f = rw (writer_accepts o out h) at e in let z : ◌≡◌ {A = ℕ} 0 1 = cc in absurd (omega arith)
        go (inr (m, c, f)) =
            let g = writer_refuses o out f in
            let k = rw g at e in
            let p : m ≡ n = cc in
            let q : c ≡ d = cc in
            (rw (p, q) at f, rw g)

    writes_accepting : {n : ℕ} → (writer o out).answer ≡ accepted n → (row : Row) × Writable o out row
    unfolding written
    writes_accepting {n} e = go writer_either
      where
        go : Outcome → (row : Row) × Writable o out row
        go (inl r) = r
        go (inr (m, c, f)) = let k = rw (writer_refuses o out f) at e in let z : ◌≡◌ {A = ℕ} 0 1 = cc in absurd (omega arith)

pub demand1_ours : Demand1 reader writer
demand1_ours = record { reader = λ s given t o e. refuses_rightly s o given t e; writer = λ o out e. writes_refusing o out e }

-- ---- what was read is written again, and what was written is read again
reads_then_writes : (s : Octets) (given : ℕ) (t : List ℕ) (out : Octets) {x : Told} {c : Component} → AreOctets s → (reader s given t).answer ≡ accepted x →
    (h : Laid c s) → length s ≤ length out → WrittenAgain h out (writer (handed x (reader s given t).table s) out)
unfolding written output_after
reads_then_writes s given t out {x} {c} o e h room =
    let (row, r, p) = told_of_lem s o given t e h in
    let q = ap (λ x. x.table) (reader_accepts s o given t r) in
    let z : writer (handed x (reader s given t).table s) out ≡ puts (composed c) out = rw (← p, q, composes_again r (standing_show r.laid_out.laid) t (length out) room) in
    let (same, only) = same_or_shorter (shorter h) out z in
    record { composes = z; same = same; only = only }

-- what a writer was handed is told again
module _ (kind : ℕ) (code : E.Code) where
  made_operation : operation_of kind (get_or (written_code kind code) 0 0) code.first ≡ code.first
  unfolding operation_of written_code format_of
  made_operation = ask (ℕ_discrete kind 0xE9) (λ e. rw e refl) λ n. rw (ne_eqb kind 0xE9 n) refl

  told_again : Typed kind → code_of (told_code kind (written_code kind code) code.first) ≡ heeded kind code
  unfolding code_of told_code written_code format_of heeded
  told_again = of_typed (λ kind. code_of (told_code kind (written_code kind code) code.first) ≡ heeded kind code) refl refl refl refl kind

pub counted : (i n : ℕ) (t : List ℕ) (s : Octets) → length (parameters_from i n t s) ≡ n
unfolding parameters_from held_from
counted i zero t s = refl
counted i (suc n) t s = ap suc (counted (i + 1) n t s)

module _ (o : Order) (out : Octets) where
  writes_well : {row : Row} → Writable o out row → writer o out ≡ puts (octets_for o) out
  unfolding written output_after
  writes_well w = rw (writer_accepts o out w)

  abbrev whole : Octets
  whole = octets_for o

  -- what was written is right
  written_right : {row : Row} → Writable o out row → (t : List ℕ) → table_size ≤ length t → Right whole o.code.first t (made o) row
  unfolding component_of
  written_right w t k =
      let (m, _, few) = makes o.kind o.id o.code (ordered o) o.count o.table o.source (ready o w.ready) in
      record {
        enough = k;
        laid_out = record { laid = composes m; within = m.size; few = few };
        has_row = rw (made_operation o.kind o.code) w.has_row;
        fits = w.fits;
      }

  -- and read again
  read_whole : {row : Row} → Writable o out row → (t : List ℕ) → table_size ≤ length t → AreOctets whole → ReadAgain reader o whole t
  unfolding parameters_from component_of
  read_whole {row} w t k b =
      let r = written_right w t k in
      let p = reader_accepts whole b o.code.first t r in
      let q = ap (λ x. x.table) p in
      let shows = standing_show r.laid_out.laid in
      record {
        told = tells o.code.first (made o) row;
        accepts = ap (λ x. x.answer) p;
        kind = refl;
        id = refl;
        code = told_again o.kind o.code w.ready.held.allowed.0;
        count = counted 0 o.count o.table o.source;
        parameters = rw (q, ← as_many shows, holds _ t) (shown_are whole shows);
      }

writes_then_reads : (o : Order) (out : Octets) (t : List ℕ) {n : ℕ} → (writer o out).answer ≡ accepted n → table_size ≤ length t →
    AreOctets (take n (writer o out).output) → ReadAgain reader o (take n (writer o out).output) t
unfolding written output_after
writes_then_reads o out t {n} e k b =
    let (row, w) = writes_accepting o out e in
    let f = writer_accepts o out w in
    let g = inner (rw f at e) in
    let p : take n (writer o out).output ≡ whole o out = rw (f, ← g) (take-append_seam (whole o out) (drop (length (whole o out)) out)) in
    rw p (read_whole o out w t k (rw p at b))

pub demand2_ours : Demand2 reader writer
demand2_ours =
    record {
      reader = λ s given t o e. accepts_rightly s o given t e;
      shown = λ s given t o r. reader_accepts s o given t r;
      placed = λ s given t o r. places s o given t r;
      writer = λ o out e. writes_accepting o out e;
      written = λ o out w. writes_well o out w;
      read_then_write = reads_then_writes;
      write_then_read = writes_then_reads;
    }
