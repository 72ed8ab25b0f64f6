-- Our package reader refuses and accepts as the demands say, and whatever satisfies their part of a reader gives what ours gives.
use Prim.Native.Nat.{ℕ}
use mathlib.Core.Path.{◌≡◌, refl, sym, ap, ap₂, ◌∙◌}
use mathlib.Core.List.{List}
use mathlib.Core.Logic.{⊎_elim}
use lib.ListN.{length, drop_of_length-le}
use borrow.Author.Tests.{lt-ltb, le-ltb, le-leb, lt-leb}
use native.Mathlib.Decide.{dec_le}
use native.Mathlib.Omega.{arith}
use Rattle.element.specs.Octets.{Octets, AreOctets}
use Rattle.element.specs.Answer.{Answer, accepted, refused, ◌>>=◌, ◌>>◌, check}
use Rattle.component.specs.Layout.{span}
use Rattle.component.proofs.Complete.{longer}
use Rattle.component.proofs.Deciding.{Decided, fine, fault, then, was_fault, was_fine, ask, dec_between}
use Rattle.operation.specs.Caller as O
use Rattle.package.specs.Caller.{Parcel, read, Reader, Writer}
use Rattle.package.specs.Grammar.{Package}
use Rattle.package.specs.Layout.{opening, all_from}
use Rattle.package.specs.Reading.{read_each, carried_in, few, Packet, tables_size, sequence_reading, package_reading, tables_after}
use Rattle.package.specs.Told.{told}
use Rattle.package.specs.Demands.{sequence_place, first_place, ids_place, LaidOut, ReaderRefuses, Right, tells, tables_from, Demand1, Demand2}
use Rattle.package.specs.Model.{reader}
use Rattle.package.proofs.Steps.{is_few, not_few}
use Rattle.package.proofs.Standing.{spans_from, as_many, first_kind, opening_found, components_stand, all_found, ids_size}
use Rattle.package.proofs.Refused.{some, unpackaged_refused}
use Rattle.package.proofs.Deciding.{decide}
use Rattle.package.proofs.Components.{placing, told_so, left_so, all_carried, one_uncarried, read_all, one_refused, accepted_or_not, carried_or_not}

-- what two steps refuse, they refuse whatever stands behind them
goes_no_further : {A B C : Type 0} (a : Answer A) (f : A → Answer B) (k : A → B → Answer C) {n d : ℕ} → (a >>= f) ≡ refused n d →
    (a >>= λ x. f x >>= k x) ≡ refused n d
goes_no_further (accepted x) f k e = rw e
goes_no_further (refused m c) f k e = cc

module _ (s : Octets) (specifiers : ℕ) (t : List ℕ) where
  abbrev answer : Answer Packet
  answer = package_reading s specifiers (length t)

  -- a package laid out, as ours goes on with it
  module _ {p : Package} (h : LaidOut s t p) where
    walked : answer ≡ (check (few (length p.components)) 23 (sequence_place h.packaged) >> (
        read_each s (spans_from (first_place h.packaged) p.components) specifiers >>= λ ys.
        carried_in p.kind ys specifiers >> accepted (record {
          kind = p.kind;
          ids = span (ids_place h.packaged) (sequence_place h.packaged);
          components = ys;
        })))
    unfolding package_reading sequence_reading
    walked =
        let g = h.packaged in
        rw (
          le-leb tables_size (length t) h.enough,
          lt-ltb 0 (length s) (omega (arith, longer g.whole)),
          le-leb (length s) 4096 h.within,
          opening_found g,
          all_found g,
          as_many (first_place g) p.components,
          first_kind g,
        )

  pub reader_refuses : AreOctets s → {n d : ℕ} → ReaderRefuses s specifiers t n d → answer ≡ refused n d
  unfolding package_reading sequence_reading
  reader_refuses o (ReaderRefuses.no_table h) = rw (lt-leb tables_size (length t) h)
  reader_refuses o (ReaderRefuses.empty h e) = rw (le-leb tables_size (length t) h, le-ltb 0 (length s) (omega (arith, ap length e)))
  reader_refuses o (ReaderRefuses.long h k) = rw (le-leb tables_size (length t) h, lt-ltb 0 (length s) (omega arith), lt-leb (length s) 4096 k)
  reader_refuses o (ReaderRefuses.layout h k f) =
      rw (le-leb tables_size (length t) h, lt-ltb 0 (length s) (some f), le-leb (length s) 4096 k)
      (goes_no_further (opening s) (λ x. all_from s x.first) _ (unpackaged_refused s o f))
  reader_refuses o (ReaderRefuses.miscounted h n) = walked h ∙ rw (not_few n)
  reader_refuses o (ReaderRefuses.refused_inside h k f) =
      walked h ∙ rw (is_few k, one_refused s h.within h.packaged.components (components_stand h.packaged) f)
  reader_refuses o (ReaderRefuses.carriage {p} h k a f) =
      let g = h.packaged in
      let (ys, q) = placing (first_place g) a in
      walked h ∙ rw (is_few k, read_all s h.within g.components (components_stand g) q, one_uncarried p.kind q f)

  pub refuses : AreOctets s → {n d : ℕ} → ReaderRefuses s specifiers t n d → reader s specifiers t ≡ read (refused n d) t
  unfolding told tables_after
  refuses o f = rw (reader_refuses o f)

  pub reader_accepts : {p : Package} {xs : List O.Told} (h : Right s specifiers t p xs) →
      reader s specifiers t
      ≡ read (accepted (tells h.laid_out.packaged xs)) (tables_from (first_place h.laid_out.packaged) p.components xs specifiers t)
  unfolding told tables_after
  reader_accepts {p} h =
      let g = h.laid_out.packaged in
      let (ys, q) = placing (first_place g) h.accepted in
      let r = read_all s h.laid_out.within g.components (components_stand g) q in
      let e = rw (is_few h.few, r, all_carried p.kind q h.carried) at (walked h.laid_out) in
      ap₂ read (rw (e, ids_size g, told_so q)) (rw e (left_so q t))

  -- ---- and there is no third
  abbrev Outcome : Type 0
  Outcome = Decided ((p : Package) × (xs : List O.Told) × Right s specifiers t p xs) (ReaderRefuses s specifiers t)

  read_or_not : {p : Package} → LaidOut s t p → Outcome
  read_or_not {p} h =
      let at = first_place h.packaged in
      ask (dec_between 1 (length p.components) 8) (λ few.
      then (accepted_or_not at p.components specifiers) (λ n d f. ReaderRefuses.refused_inside h few f) λ (xs, a).
      ⊎_elim (λ c. fine (p, xs, record { laid_out = h; few = few; accepted = a; carried = c })) (λ (d, f). fault (ReaderRefuses.carriage h few a f))
      (carried_or_not p.kind at a))
      (λ n. fault (ReaderRefuses.miscounted h n))

  reader_either : AreOctets s → Outcome
  reader_either o =
      ask (dec_le tables_size (length t)) (λ enough.
      ask (dec_le (length s) 4096) (λ within.
      ask (dec_le 1 (length s)) (λ some.
      then (decide s o some) (λ n d f. ReaderRefuses.layout enough within f) λ (p, g).
      read_or_not (record { enough = enough; within = within; packaged = g }))
      (λ n. fault (ReaderRefuses.empty enough (drop_of_length-le s {i = 0} (omega arith)))))
      (λ n. fault (ReaderRefuses.long enough (omega arith))))
      (λ n. fault (ReaderRefuses.no_table (omega arith)))

  -- ---- the demands' part of a reader, of ours: `shown` is `reader_accepts`
  answers_refusing : AreOctets s → (n d : ℕ) → ReaderRefuses s specifiers t n d → (reader s specifiers t).answer ≡ refused n d
  answers_refusing o n d f = ap (λ r. r.answer) (refuses o f)

  pub refuses_rightly : {n d : ℕ} → AreOctets s → (reader s specifiers t).answer ≡ refused n d →
      ReaderRefuses s specifiers t n d × ((reader s specifiers t).table ≡ t)
  refuses_rightly o e =
      let f = was_fault (reader_either o) (λ (p, xs, h). (_, ap (λ r. r.answer) (reader_accepts h))) (answers_refusing o) e in
      (f, ap (λ r. r.table) (refuses o f))

  pub accepts_rightly : {x : Parcel} → AreOctets s → (reader s specifiers t).answer ≡ accepted x →
      (p : Package) × (xs : List O.Told) × Right s specifiers t p xs
  accepts_rightly o e = was_fine (reader_either o) (answers_refusing o) e

-- ---- and of any other
module _ (r : Reader) (w : Writer) (first : Demand1 r w) (second : Demand2 r w) where
  pub one_reader : (s : Octets) (specifiers : ℕ) (t : List ℕ) → AreOctets s → r s specifiers t ≡ reader s specifiers t
  one_reader s specifiers t o = go (r s specifiers t).answer refl
    where
      go : (a : Answer Parcel) → (r s specifiers t).answer ≡ a → r s specifiers t ≡ reader s specifiers t
      go (accepted x) e = let (p, xs, h) = second.reader s specifiers t o e in second.shown s specifiers t o h ∙ sym (reader_accepts s specifiers t h)
      go (refused n d) e =
          let (f, q) = first.reader s specifiers t o e in
          ap₂ read e q ∙ sym (refuses s specifiers t o f)
