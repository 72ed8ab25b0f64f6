-- From the engine's answer over the sheet to the reading: the row, the counts, and each place that a refusal points to.
use Prim.Native.Nat.{ℕ, ◌*◌, ◌-◌}
use mathlib.Core.Path.{◌≡◌, refl}
use mathlib.Core.Bool.{false}
use mathlib.Core.List.{List, map}
use mathlib.Core.Logic.{⊎_elim}
use lib.ListN.{length, length-map}
use lib.Seq.{take-append_seam}
use lib.Dec.{eqb}
use native.Mathlib.Omega.{arith}
use Rattle.element.specs.Octets.{Octets}
use Rattle.element.specs.Answer.{Answer, accepted, refused, ◌>>=◌}
use Rattle.component.specs.Table.{Entry, width, table_with, held}
use Rattle.component.specs.Layout.{Layout, operation_place}
use Rattle.component.proofs.Entries.{numbers_length}
use Rattle.operation.specs.Row.{Row, Item}
use Rattle.operation.specs.Judge.{judge, count_named, pointed}
use Rattle.operation.specs.Faults.{RowFault, again, missized, missing, both}
use Rattle.operation.specs.inner.Coded.{items_from, judgement, verdict}
use Rattle.operation.specs.Items.{item_of}
use Rattle.operation.specs.Reading.{operation_in, count_other, shown_by, shown_of, table_after}
use Rattle.operation.specs.Told.{told}
use Rattle.operation.specs.inner.Sheet.{copied}
use Rattle.operation.specs.inner.Finishing.{detail_of, finished, table_finished}
use Rattle.operation.proofs.Marks.{marked, count_marked}
use Rattle.operation.proofs.RowFaults.{row_faulty}
use Rattle.operation.proofs.Readings.{either_row, shown_by_lem, not_shown}
use Rattle.operation.proofs.Places.{all_counted, placed_items}

pub copies : (es : List Entry) (z t : List ℕ) → copied (table_with es z) t (width * length es) ≡ table_with es t
unfolding table_with
copies es z t = simp (← numbers_length es, take-append_seam)

module _ (s : Octets) (given : ℕ) (z : List ℕ) (l : Layout) where
  abbrev sheet : List ℕ
  sheet = table_with l.entries z

  -- the entries as the engine sees them
  abbrev items : List Item
  items = items_from sheet 0 (length l.entries)

  module _ (row : Row) where
    not_eleven : {n d : ℕ} → RowFault row items n d → eqb n 11 ≡ false
    not_eleven (again before x behind p q r u v) = refl
    not_eleven (missized q f) = refl
    not_eleven (missing q s f) = refl
    not_eleven (both q s p f y) = refl

    by_place : judge row (map item_of l.entries) ≡ pointed (λ i. (held sheet i).place) (judge row items)
    by_place = rw (← placed_items l.entries z) (marked (λ i. (held sheet i).place) row items)

    same_count : count_named row (map item_of l.entries) ≡ count_named row items
    same_count = rw (← placed_items l.entries z) (count_marked (λ i. (held sheet i).place) row items)

    others : length l.entries - count_named row items ≡ count_other row (map item_of l.entries)
    others = omega (arith, all_counted row (map item_of l.entries), length-map l.entries item_of, same_count)

    judged : (a : Answer Unit) → judge row items ≡ a →
        finished s l.head given (length l.entries) sheet (a >>= λ _. accepted (count_named row items))
        ≡ told (pointed (λ i. (held sheet i).place) a >>= λ _. accepted (shown_by s l given row))
    unfolding finished detail_of told pointed
    judged (accepted u) q = simp (others, same_count)
    judged (refused n d) q = rw (not_eleven (row_faulty row items q))

    shows : (t : List ℕ) (a : Answer Unit) →
        table_finished (length l.entries) sheet t (a >>= λ _. accepted (count_named row items))
        ≡ table_after t (pointed (λ i. (held sheet i).place) a >>= λ _. accepted (shown_by s l given row))
    unfolding table_finished table_after pointed
    shows t (accepted u) = copies l.entries z t
    shows t (refused n d) = refl

  -- ---- whatever the row
  none_told : finished s l.head given (length l.entries) sheet (refused 11 0) ≡ told (refused 11 (operation_place l.head))
  unfolding finished detail_of told
  none_told = refl

  none_shown : (t : List ℕ) → table_finished (length l.entries) sheet t (refused 11 0) ≡ table_after t (refused 11 (operation_place l.head))
  unfolding table_finished table_after
  none_shown t = refl

  abbrev said : Answer ℕ
  said = verdict l.head.kind (operation_in s l.head given) items

  pub answers : finished s l.head given (length l.entries) sheet said ≡ told (shown_of s given l)
  unfolding verdict judgement
  answers =
      ⊎_elim
      (λ (row, f). rw (f 0, shown_by_lem s given l (f (operation_place l.head)), by_place row) (judged row (judge row items) refl))
      (λ f. rw (f 0, not_shown s given l (f (operation_place l.head))) none_told)
      (either_row l.head.kind (operation_in s l.head given))

  pub tables : (t : List ℕ) → table_finished (length l.entries) sheet t said ≡ table_after t (shown_of s given l)
  unfolding verdict judgement
  tables t =
      ⊎_elim
      (λ (row, f). rw (f 0, shown_by_lem s given l (f (operation_place l.head)), by_place row) (shows row t (judge row items)))
      (λ f. rw (f 0, not_shown s given l (f (operation_place l.head))) (none_shown t))
      (either_row l.head.kind (operation_in s l.head given))
