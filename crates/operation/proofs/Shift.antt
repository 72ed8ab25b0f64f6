-- A component read behind other octets is the component read alone, with every place moved on by as many.
use Prim.Native.Nat.{ℕ, ◌+◌, ◌<◌}
use mathlib.Core.Path.{◌≡◌, refl}
use mathlib.Core.Bool.{Bool, true, false}
use mathlib.Core.Logic.{⊎_elim}
use mathlib.Core.List.{List, [], ◌∷◌, ◌++◌, map}
use lib.ListN.{length}
use lib.Dec.{eqb}
use borrow.Author.Tests.{ne_eqb}
use native.Mathlib.Omega.{arith}
use Rattle.element.specs.Octets.{Octets, if}
use Rattle.element.specs.Answer.{Answer, accepted, refused}
use Rattle.component.specs.Table.{Entry}
use Rattle.component.specs.Layout.{Head, operation_place}
use Rattle.component.specs.Onward.{entry_on, head_on}
use Rattle.component.proofs.Shift.{Detail, on, kept, On, both, stop, Any, By, equation, then, seen, part, layout_on_lem, code_octets_on}
use Rattle.operation.specs.Row.{Row, Item}
use Rattle.operation.specs.Judge.{judge, pointed, remark}
use Rattle.operation.specs.Finding.{row_of}
use Rattle.operation.specs.Items.{item_of}
use Rattle.operation.specs.Faults.{RowFault, again, missized, missing}
use Rattle.operation.specs.Faults as F
use Rattle.operation.specs.Reading.{operation_in, count_other, shown_of, reading_from}
use Rattle.operation.specs.Inside.{shown_on, Shifts}
use Rattle.operation.proofs.Marks.{marked, count_marked}
use Rattle.operation.proofs.RowFaults.{row_faulty}
use Rattle.operation.proofs.Readings.{either_row}

module _ (pre c : Octets) where
  abbrev n : ℕ
  n = length pre

  abbrev s : Octets
  s = pre ++ c

  marks_on : (es : List Entry) → map item_of (map (entry_on n) es) ≡ map (remark (λ d. n + d)) (map item_of es)
  unfolding item_of remark
  marks_on [] = refl
  marks_on (e ∷ es) = rw (marks_on es) refl

  other_marked : (row : Row) (xs : List Item) → count_other row (map (remark (λ d. n + d)) xs) ≡ count_other row xs
  unfolding count_other remark
  other_marked row [] = refl
  other_marked row (x ∷ xs) = rw (other_marked row xs) refl

  row_on : (kind specifier at at' : ℕ) → Detail n 11 at at' → On n ◌≡◌ (row_of kind specifier at) (row_of kind specifier at')
  row_on kind specifier at at' q = ⊎_elim (λ (row, f). rw (f at, f at') (both refl)) (λ f. rw (f at, f at') (stop q)) (either_row kind specifier)

  eleven : (h : Head) → 0 < h.code → Detail n 11 (operation_place h) (operation_place (head_on n h))
  unfolding operation_place
  eleven h p = go (eqb h.kind 0xE9)
    where
      go : (t : Bool) → Detail n 11 (if t h.code 0) (if t (n + h.code) 0)
      go true = on (ne_eqb h.code 0 (λ z. omega arith)) refl
      go false = kept refl

  operation_on : (h : Head) (given : ℕ) → operation_in s (head_on n h) given ≡ operation_in c h given
  unfolding operation_in
  operation_on h given = rw (seen pre c h.code) refl

  pointing : {row : Row} {xs : List Item} {k d : ℕ} → RowFault row xs k d → Detail n k d (if (eqb k 13) d (n + d))
  pointing (again before x behind e o m r u) = on refl refl
  pointing (missized o f) = on refl refl
  pointing (missing o s f) = kept refl
  pointing (F.both o s e f y) = on refl refl

  judged_on : (row : Row) (xs : List Item) → On n Any (judge row xs) (judge row (map (remark (λ d. n + d)) xs))
  unfolding pointed
  judged_on row xs = rw (marked (λ d. n + d) row xs) (go (judge row xs) refl)
    where
      go : (a : Answer Unit) → judge row xs ≡ a → On n Any a (pointed (λ d. n + d) a)
      go (accepted x) e = both tt
      go (refused k d) e = stop (pointing (row_faulty row xs e))

  reading_on : (given : ℕ) → On n (By (shown_on n)) (reading_from c 0 given) (reading_from s n given)
  unfolding reading_from shown_of
  reading_on given =
      then (layout_on_lem pre c) λ l l' e.
      rw (e.is, operation_on l.head given, code_octets_on pre c l.head)
      (then (row_on _ _ _ _ (eleven l.head e.points)) λ row row' q.
      rw (← q, marks_on l.entries)
      (then (judged_on row (map item_of l.entries)) λ _ _ _.
      both (rw (part pre c l.head.id.start l.head.id.end, count_marked (λ d. n + d) row (map item_of l.entries), other_marked row (map item_of l.entries)) refl)))

pub shift : Shifts
unfolding Shifts
shift pre c given = equation (shown_on (length pre)) (reading_on pre c given)
