-- `package::read_into` meets its contract.
use Prim.Native.Nat.{ℕ, ◌≤◌}
use mathlib.Core.Bool.{false}
use mathlib.Core.List.{List}
use borrow.Author.Tests.{le-leb, lt-leb, lt-ltb, eqb-true, eqb-false}
use mathlib.Core.Path.{◌≡◌, refl, sym, ◌∙◌}
use lib.ListN.{length}
use lib.Dec.{eqb}
use native.Mathlib.Omega.{arith}
use Rattle.element.specs.Octets.{Octets}
use Rattle.element.specs.Answer.{◌>>=◌}
use Rattle.package.specs.Layout.{opening}
use Rattle.package.specs.Reading.{tables_size, sequence_reading, package_reading, reading_into, tables_after}
use Rattle.package.specs.Told.{told, outlined, places_after, summaries_after}
use Rattle.std.proofs.lemmas.Result.{err_from_is_err_and}
use Rattle.package.proofs.reading.read_into.Goals as goal
use Rattle.package.proofs.reading.read_into.Goals.{then-places-lt8-via-then-places-lt8, then-places-lt8-via-else-places-lt8+then-summaries-lt8, then-places-lt8-via-else-places-lt8+else-summaries-lt8+then-table-lt-TABLES, then-is_empty-via-then-is_empty, then-is_empty-via-else-is_empty+then-octets-gt4096}

pub returns-then-places-lt8 : goal.returns-then-places-lt8
unfolding reading_into package_reading tables_after told outlined places_after summaries_after
returns-then-places-lt8 c =
    elim c.then-places-lt8.branch [
      | then-places-lt8-via-then-places-lt8 w ↦ rw (c.at.ensures, lt-leb 8 _ w.if-places-lt8.true) (refl, refl, refl, refl)
      | then-places-lt8-via-else-places-lt8+then-summaries-lt8 w ↦
          rw (c.at.ensures, le-leb 8 _ w.if-places-lt8.false, lt-leb 8 _ w.if-summaries-lt8.true) (refl, refl, refl, refl)
      | then-places-lt8-via-else-places-lt8+else-summaries-lt8+then-table-lt-TABLES w ↦
          rw (c.at.ensures, le-leb 8 _ w.if-places-lt8.false, le-leb 8 _ w.if-summaries-lt8.false, lt-leb tables_size _ w.if-table-lt-TABLES.true) (refl, refl, refl, refl)
    ]

pub returns-then-is_empty : goal.returns-then-is_empty
unfolding reading_into package_reading tables_after told outlined places_after summaries_after
returns-then-is_empty c =
    elim c.then-is_empty.branch [
      | then-is_empty-via-then-is_empty w ↦
          let none : length c.args.octets.now ≡ 0 = eqb-true _ 0 (sym c.is_empty.ensures ∙ w.if-is_empty.true) in
          rw (c.at-then-is_empty.ensures, le-leb 8 _ c.if-places-lt8.false, le-leb 8 _ c.if-summaries-lt8.false, le-leb tables_size _ c.if-table-lt-TABLES.false, none) (refl, refl, refl, refl)
      | then-is_empty-via-else-is_empty+then-octets-gt4096 w ↦
          rw (c.at-then-is_empty.ensures, le-leb 8 _ c.if-places-lt8.false, le-leb 8 _ c.if-summaries-lt8.false, le-leb tables_size _ c.if-table-lt-TABLES.false, lt-ltb 0 (length c.args.octets.now) (omega arith), lt-leb _ 4096 w.if-octets-gt4096.true) (refl, refl, refl, refl)
    ]

-- what is left to be asked then
begun : (s : Octets) (specifiers : ℕ) (t places summaries : List ℕ) → 8 ≤ length places → 8 ≤ length summaries → tables_size ≤ length t → eqb (length s) 0 ≡ false → length s ≤ 4096 →
    reading_into s specifiers (length t) (length places) (length summaries) ≡ (opening s >>= sequence_reading s specifiers)
unfolding reading_into package_reading
begun s specifiers t places summaries h k l m n = rw (le-leb 8 _ h, le-leb 8 _ k, le-leb tables_size _ l, lt-ltb 0 (length s) (let n = eqb-false (length s) 0 m in omega arith), le-leb _ 4096 n)

pub read_sequence-requires : goal.read_sequence-requires
read_sequence-requires c =
    omega (arith, c.in_ok-opening.ensures.inside, c.if-octets-gt4096.false, c.if-places-lt8.false, c.if-summaries-lt8.false, c.if-table-lt-TABLES.false)

pub returns-in_err-opening : goal.returns-in_err-opening
unfolding tables_after told outlined places_after summaries_after
returns-in_err-opening c =
    let p = err_from_is_err_and c.from_residual.result c.from_residual.ensures.1 in
    rw (p.1, p.2, (begun _ _ _ _ _ c.if-places-lt8.false c.if-summaries-lt8.false c.if-table-lt-TABLES.false (sym c.is_empty.ensures ∙ c.if-is_empty.false) c.if-octets-gt4096.false), sym c.in_err-opening.ensures.answer) (refl, refl, refl, refl)

pub returns : goal.returns
returns c =
    rw ((begun _ _ _ _ _ c.if-places-lt8.false c.if-summaries-lt8.false c.if-table-lt-TABLES.false (sym c.is_empty.ensures ∙ c.if-is_empty.false) c.if-octets-gt4096.false), sym c.in_ok-opening.ensures.answer)
    c.read_sequence.ensures
