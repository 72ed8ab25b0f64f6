-- The number that C gets can be taken apart: what fits comes back as it was, and every answer of ours fits.
use Prim.Native.Nat.{ℕ, zero, suc, ◌+◌, ◌*◌, ◌-◌, ◌/◌, ◌%◌, ◌<◌, ◌≤◌}
use mathlib.Core.Path.{◌≡◌, refl, sym, ap, subst, ◌∙◌}
use mathlib.Core.Bool.{Bool, true, false}
use mathlib.Core.List.Memᴰ
use mathlib.Core.List.{List, [], ◌∷◌, ◌++◌, Memᴰ}
use lib.ListN.{length, get_or}
use lib.Dec.{ltb, eqb}
use borrow.Author.Tests.{ne_eqb, ltb-true}
use native.Mathlib.Nat.{mod-eq_of_lt}
use native.Mathlib.Omega.{arith}
use Rattle.element.specs.Octets.{Octets, AreOctets, if}
use Rattle.element.specs.Answer.{Answer, accepted, refused}
use Rattle.element.proofs.Reading.{small}
use Rattle.component.specs.Grammar.{Component}
use Rattle.component.specs.Table.{id_of, code_of}
use Rattle.component.specs.Onward.{keeps, answer_on}
use Rattle.component.proofs.Details.{Given, listed, stands_in, id_octets_lem, code_octets_lem, two_octets, operation_in_lem, needed_most}
use Rattle.component.proofs.Typing.{two_at_most}
use Rattle.operation.specs.Row.{Row, Line, Item, key, number_of, asks}
use Rattle.operation.specs.Rows.{Operation, operations}
use Rattle.operation.specs.Faults.{First, RowFault, again, missized, missing, both}
use Rattle.operation.specs.Items.{item_of}
use Rattle.operation.specs.Codes.{told_code}
use Rattle.operation.specs.Caller.{Told, Order}
use Rattle.operation.specs.Demands.{RowFor, listed as in-the-book, unasked, ReaderRefuses, Right, tells, ordered, WriterRefuses}
use Rattle.operation.specs.Model.{reader, writer}
use Rattle.operation.specs.Packed.{octets, counts_of, told_octets, packed_reading, packed_writing, octet_at, unpacked_reading, unpacked_writing, RefusalFits, ReadingFits, WritingFits, AreNumbers, Apart}
use Rattle.operation.proofs.RowFaults.{first_in, last_in}
use Rattle.operation.proofs.Lines.{all, of_all}
use Rattle.operation.proofs.Marked.{inside}
use Rattle.operation.proofs.OnlyOne.{reader_accepts}
use Rattle.operation.proofs.Model.{counted, demand1_ours, demand2_ours}
use Rattle.operation.proofs.Counts as counts

-- ---- what fits comes back
pub low : (x r : ℕ) → x < 256 → (x + 256 * r) % 256 ≡ x
low x r h = omega arith

pub high : (x r : ℕ) → x < 256 → (x + 256 * r) / 256 ≡ r
high x r h = omega arith

-- the octets before a number of more
pub each : (s : Octets) (more : ℕ) → AreOctets s → (i : ℕ) → i < length s → octet_at (octets (s ++ (more ∷ []))) i ≡ get_or s i 0
unfolding octets octet_at
each [] more h i k = absurd (omega arith)
each (x ∷ s) more h zero k = low x _ (h 0)
each (x ∷ s) more h (suc i) k = rw (high x (octets (s ++ (more ∷ []))) (h 0)) (each s more (λ j. h (suc j)) i (omega arith))

six : (a b c d e f more : ℕ) →
    octets (a ∷ b ∷ c ∷ d ∷ e ∷ f ∷ []) + 281474976710656 * more ≡ octets (a ∷ b ∷ c ∷ d ∷ e ∷ f ∷ more ∷ [])
unfolding octets
six a b c d e f more = omega arith

behind_six : (a b c d e f more : ℕ) → AreOctets (a ∷ b ∷ c ∷ d ∷ e ∷ f ∷ []) → octets (a ∷ b ∷ c ∷ d ∷ e ∷ f ∷ more ∷ []) / 281474976710656 ≡ more
unfolding octets
behind_six a b c d e f more h = omega (arith, h 0, h 1, h 2, h 3, h 4, h 5)

-- the counts
module _ (id all named : ℕ) (h : all ≤ 64) (k : named ≤ all) where
  first_count : counts_of id all named / 16384 ≡ id
  first_count = omega arith

  second_count : counts_of id all named / 128 % 128 ≡ all
  second_count = omega arith

  third_count : counts_of id all named % 128 ≡ named
  third_count = omega arith

pub reading_apart : (a : Answer Told) → ReadingFits a → unpacked_reading (packed_reading a) ≡ a
unfolding unpacked_reading packed_reading octet_at
reading_apart (accepted x) (h, _, few, all) =
    let id = x.id.count in
    let more = counts_of id x.all x.named in
    let o = each (told_octets x) more h in
    let k : x.named ≤ x.all = omega arith in
    let other : x.all - x.named ≡ x.other = omega arith in
    rw (
      six 0 x.kind x.id.first x.id.second x.code.first x.code.second more,
      o 0 (omega arith),
      o 1 (omega arith),
      o 2 (omega arith),
      o 3 (omega arith),
      o 4 (omega arith),
      o 5 (omega arith),
      behind_six 0 x.kind x.id.first x.id.second x.code.first x.code.second more h,
      first_count id x.all x.named few k,
      second_count id x.all x.named few k,
      third_count id x.all x.named few k,
      other,
    )
reading_apart (refused n d) h = rw (low n d h.octet, ne_eqb n 0 (omega arith), high n d h.octet, mod-eq_of_lt h.four)

pub writing_apart : (a : Answer ℕ) → WritingFits a → unpacked_writing (packed_writing a) ≡ a
unfolding unpacked_writing packed_writing octet_at
writing_apart (accepted count) h = rw (low 0 count (omega arith), high 0 count (omega arith), mod-eq_of_lt h)
writing_apart (refused n d) h = rw (low n d h.octet, ne_eqb n 0 (omega arith), high n d h.octet, mod-eq_of_lt h.four)

-- ---- what a row asks for: one test, computed over all rows
abbrev asks_few : Line → Bool
asks_few l = ltb (asks l) 65536

abbrev row_few : Operation → Bool
row_few o = all asks_few o.row

all_few : all row_few operations ≡ true
unfolding all operations key number_of asks
all_few = refl

no_line : {P : Line → Type 0} {xs : List Line} {l : Line} → First P xs l → xs ≡ [] → ⊥
no_line (First.here h) e = omega (arith, ap length e)
no_line (First.later n f) e = omega (arith, ap length e)

-- a refusal that fits behind other octets too: its detail is a place, an entry or a number
abbrev pub Small : (number detail : ℕ) → Type 0
Small n d = Given n × (d < 65536)

-- a fault of a run against its row fits, where the marks do
row_fits : {kind specifier : ℕ} {row : Row} {xs : List Item} {n d : ℕ} → RowFor kind specifier row →
    ((x : Item) → Memᴰ x xs → x.mark < 65536) → RowFault row xs n d → Small n d
row_fits r marks (again before x behind e o n g t) = omega (arith, marks x (rw e (Memᴰ.append_right before (Memᴰ.head refl))))
row_fits r marks (missized {x} o f) = omega (arith, marks x (first_in f))
row_fits (in-the-book _ r) marks (missing {l} o s f) = omega (arith, ltb-true (asks l) 65536 (of_all asks_few (first_in f) (of_all row_few r all_few)))
row_fits (unasked _) marks (missing o s f) = absurd (no_line f refl)
row_fits r marks (both {x = x} o s e f y) = omega (arith, marks x (last_in y))

pub refusal_small : {s : Octets} {given : ℕ} {t : List ℕ} {n d : ℕ} → ReaderRefuses s given t n d → Small n d
unfolding item_of
refusal_small (ReaderRefuses.table k) = omega arith
refusal_small (ReaderRefuses.fault k f) = omega (arith, listed f)
refusal_small (ReaderRefuses.no_row k l e) = omega (arith, operation_in_lem l.laid)
refusal_small (ReaderRefuses.misfit k l e f) = row_fits e (λ x m. let (y, i, p) = Memᴰ.of_map item_of _ m in omega (arith, stands_in l.laid i, ap (λ x. x.mark) p)) f

-- ---- every answer of ours fits
module _ (s : Octets) (o : AreOctets s) (given : ℕ) (h : given < 256) (t : List ℕ) where
  told_octets_lem : (kind : ℕ) (code : Octets) → AreOctets code → AreOctets (told_code kind code given)
  unfolding told_code
  told_octets_lem kind code k = go (eqb kind 0xEA)
    where
      go : (t : Bool) → AreOctets (if t (given ∷ []) code)
      go true = small (given ∷ []) (omega arith)
      go false = k

  told_fits : {c : Component} {row : Row} → Right s given t c row → ReadingFits (accepted (tells given c row))
  unfolding id_of code_of
  told_fits {c} {row} r =
      let (two, few, all) = counts.read s given (length t) o (sym (ap (λ x. x.answer) (reader_accepts s o given t r))) in
      let id = id_octets_lem o r.laid_out in
      let code = told_octets_lem c.kind c.code (code_octets_lem o r.laid_out) in
      let (kind, _) = two_octets r.laid_out.laid in
      (small (told_octets (tells given c row)) (omega (arith, kind, id 0, id 1, code 0, code 1)), two, few, all)

  -- also behind so many other octets
  pub fits_behind : (n : ℕ) → n ≤ 4096 → (a : Answer Told) → (reader s given t).answer ≡ a → ReadingFits (answer_on n (λ x. x) a)
  fits_behind n k (accepted x) e =
      let (c, row, r) = demand2_ours.reader s given t o e in
      subst ReadingFits (sym (ap (λ x. x.answer) (reader_accepts s o given t r)) ∙ e) (told_fits r)
  fits_behind n k (refused m d) e = go (keeps m d) (refusal_small (demand1_ours.reader s given t o e).0)
    where
      go : (b : Bool) → Small m d → RefusalFits m (if b d (n + d))
      go true h = omega arith
      go false h = omega arith

  reader_fits : (a : Answer Told) → (reader s given t).answer ≡ a → ReadingFits a
  reader_fits (accepted x) e = fits_behind 0 (omega arith) (accepted x) e
  reader_fits (refused n d) e = omega (arith, refusal_small (demand1_ours.reader s given t o e).0)

module _ (o : Order) (numbers : AreNumbers o.table) (out : Octets) where
  order_fits : {n d : ℕ} → WriterRefuses o out n d → RefusalFits n d
  order_fits (WriterRefuses.no_type h) = omega arith
  order_fits (WriterRefuses.no_id h k) = omega arith
  order_fits (WriterRefuses.too_many h k) = omega arith
  order_fits (WriterRefuses.no_table h k l) = omega arith
  order_fits (WriterRefuses.no_entry h k s b) = omega arith
  order_fits (WriterRefuses.too_long h s k) = omega (arith, needed_most o.table o.source numbers o.kind o.id.count o.count (two_at_most h.allowed) h.few)
  order_fits (WriterRefuses.no_row r e) = omega arith
  order_fits (WriterRefuses.misfit r e f) = omega (arith, row_fits e (λ x m. omega (arith, r.held.few, inside 0 (ordered o) m, counted 0 o.count o.table o.source)) f)
  order_fits (WriterRefuses.no_room r e f k) = omega arith

  writer_fits : (a : Answer ℕ) → (writer o out).answer ≡ a → WritingFits a
  writer_fits (accepted n) e = omega (arith, counts.written_short o.kind o.id o.code o.count o.table o.source (length out) (sym e))
  writer_fits (refused n d) e = order_fits (demand1_ours.writer o out e).0

pub apart : Apart
apart =
    record {
      reading = λ s given t o h. reading_apart _ (reader_fits s o given h t _ refl);
      writing = λ o out h. writing_apart _ (writer_fits o h out _ refl);
    }
