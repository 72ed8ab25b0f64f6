-- The items of a table: how many there are, that a row points to one of them, and that it judges them by entry and by place alike.
use Prim.Native.Nat.{ℕ, zero, suc, ◌+◌, ◌<◌, ◌≤◌}
use mathlib.Core.Path.{◌≡◌, refl, ap, ◌∙◌}
use mathlib.Core.Bool.{Bool, true, false}
use mathlib.Core.List.Memᴰ
use mathlib.Core.List.{List, [], ◌∷◌, map, Memᴰ}
use mathlib.Core.Logic.{⊎_elim}
use lib.ListN.{length}
use native.Mathlib.Omega.{arith}
use Rattle.element.specs.Octets.{if}
use Rattle.element.specs.Answer.{Answer, accepted, refused, ◌>>=◌}
use Rattle.component.specs.Table.{Entry, table_with, held, held_from}
use Rattle.component.proofs.Entries.{holds}
use Rattle.std.specs.Prelude.{Result, Ok, Err}
use Rattle.operation.specs.declared.engine.RowFault as F
use Rattle.operation.specs.declared.engine.RowFault.TheVariants as FV
use Rattle.operation.specs.Row.{Row, Item, named}
use Rattle.operation.specs.Judge.{judge, count_named, remark}
use Rattle.operation.specs.Items.{item_of}
use Rattle.operation.specs.Reading.{count_other}
use Rattle.operation.specs.inner.Coded.{item_at, items_from, judgement, verdict, judged_in}
use Rattle.operation.specs.inner.Finishing.{Pointing}
use Rattle.operation.proofs.RowFaults.{row_faulty, pointed_at}
use Rattle.operation.proofs.Readings.{either_row}

pub all_counted : (row : Row) (xs : List Item) → count_named row xs + count_other row xs ≡ length xs
unfolding count_named count_other
all_counted row [] = refl
all_counted row (x ∷ xs) = go (named row x.is) (all_counted row xs)
  where
    go : (t : Bool) → count_named row xs + count_other row xs ≡ length xs →
        if t (1 + count_named row xs) (count_named row xs) + if t (count_other row xs) (1 + count_other row xs) ≡ length (x ∷ xs)
    go true e = omega arith
    go false e = omega arith

module _ (t : List ℕ) where
  length_items : (i n : ℕ) → length (items_from t i n) ≡ n
  unfolding items_from
  length_items i zero = refl
  length_items i (suc n) = ap suc (length_items (i + 1) n)

  mark_below : (i n : ℕ) (x : Item) → Memᴰ x (items_from t i n) → x.mark < i + n
  unfolding items_from item_at
  mark_below i zero x m = absurd (Memᴰ.not-nil m)
  mark_below i (suc n) x m =
      ⊎_elim (λ f. let g = ap (λ y. y.mark) f in omega arith) (λ k. omega (arith, mark_below (i + 1) n x k)) (Memᴰ.cases_cons m)

  by_place : (i n : ℕ) → map (remark λ i. (held t i).place) (items_from t i n) ≡ map item_of (held_from i n t)
  unfolding items_from item_at held_from remark item_of
  by_place i zero = refl
  by_place i (suc n) = rw (by_place (i + 1) n)

pub placed_items : (es : List Entry) (z : List ℕ) → map (remark λ i. (held (table_with es z) i).place) (items_from (table_with es z) 0 (length es)) ≡ map item_of es
placed_items es z = by_place (table_with es z) 0 (length es) ∙ rw (holds es z)

-- ---- what the engine's answer is about
module _ (kind specifier count : ℕ) (t : List ℕ) where
  abbrev items : List Item
  items = items_from t 0 count

  abbrev Within : Answer ℕ → Type 0
  Within (accepted n) = n ≤ count
  Within (refused n d) = (n ≡ 11 → ⊥) → (n ≡ 13 → ⊥) → d < count

  within : Within (verdict kind specifier items)
  unfolding verdict judgement
  within = ⊎_elim (λ (row, f). rw (f 0) (go row (judge row items) refl)) (λ f. rw (f 0) λ h _. absurd (h refl)) (either_row kind specifier)
    where
      go : (row : Row) (a : Answer Unit) → judge row items ≡ a → Within (a >>= λ _. accepted (count_named row items))
      go row (accepted u) q = omega (arith, all_counted row items, length_items t 0 count)
      go row (refused n d) q = λ _ h. let (x, m, e) = pointed_at (row_faulty row items q) h in omega (arith, mark_below t 0 count x m)

  pub pointing : {below : ℕ} → count ≤ below → (j : Result ℕ F.RowFault) → judged_in j ≡ verdict kind specifier items → Pointing below j
  pointing {below} h j e = go j (rw (← e) at within)
    where
      go : (j : Result ℕ F.RowFault) → Within (judged_in j) → Pointing below j
      go (Ok named) w = omega arith
      go (Err FV.NoRow) w = tt
      go (Err (FV.Again entry)) w = omega (arith, w (λ e. omega arith) (λ e. omega arith))
      go (Err (FV.WrongSize entry)) w = omega (arith, w (λ e. omega arith) (λ e. omega arith))
      go (Err (FV.Missing number)) w = tt
      go (Err (FV.Both entry)) w = omega (arith, w (λ e. omega arith) (λ e. omega arith))
