-- What is told of a component behind other octets is what is told of it alone, moved on.
use Prim.Native.Nat.{ℕ, ◌+◌, ◌<◌, ◌≤◌}
use mathlib.Core.Path.{◌≡◌, refl, sym, ap, ◌∙◌}
use mathlib.Core.List.{List, ◌++◌}
use lib.ListN.{length, take, drop, replicate, length-map, length-drop, length-replicate, take-append-drop}
use lib.Seq.{length-take-le, get_or-drop}
use borrow.Author.Tests.{le-leb, lt-ltb}
use native.Mathlib.Omega.{arith}
use Rattle.element.specs.Octets.{Octets, AreOctets}
use Rattle.element.specs.Answer.{Answer, accepted, refused}
use Rattle.component.specs.Layout.{head_at, layout_from, layout_at}
use Rattle.component.specs.Table.{table_size}
use Rattle.component.specs.Onward.{entry_on, answer_on}
use Rattle.operation.specs.Reading.{Shown, reading, reading_from, reading_at}
use Rattle.operation.specs.Inside.{shown_on, Shifts}
use Rattle.operation.specs.Told.{told}
use Rattle.operation.specs.Model.{reader}
use Rattle.operation.specs.Packed.{ReadingFits}
use Rattle.operation.proofs.Shift.{shift}
use Rattle.operation.proofs.Packing.{fits_behind}

-- where 1 and 2 do not arise
pub asked_first : (s : Octets) (from given room : ℕ) → table_size ≤ room → from < length s → length s ≤ 4096 →
    reading_at s from given room ≡ reading_from s from given
unfolding reading_at reading_from layout_at layout_from head_at
asked_first s from given room h k l = rw (le-leb _ _ h, lt-ltb _ _ k, le-leb _ _ l)

told_on : (n : ℕ) (a : Answer Shown) → told (answer_on n (shown_on n) a) ≡ answer_on n (λ x. x) (told a)
unfolding told
told_on n (accepted x) = rw (length-map x.entries (entry_on n))
told_on n (refused m d) = refl

module _ (pre c : Octets) (given : ℕ) (t : List ℕ) (enough : table_size ≤ length t) (some : 0 < length c) (short : length c ≤ 4096) where
  pub moved_on : reading_from (pre ++ c) (length pre) given ≡ answer_on (length pre) (shown_on (length pre)) (reading c given (length t))
  unfolding Shifts
  moved_on = shift pre c given ∙ ap (answer_on (length pre) (shown_on (length pre))) (sym (asked_first c 0 given (length t) enough some short))

  pub told_moved : told (reading_from (pre ++ c) (length pre) given) ≡ answer_on (length pre) (λ x. x) (reader c given t).answer
  told_moved = ap told moved_on ∙ told_on (length pre) (reading c given (length t))

  pub fits_inside : AreOctets c → given < 256 → length pre ≤ 4096 → ReadingFits (told (reading_from (pre ++ c) (length pre) given))
  fits_inside o h k = rw told_moved (fits_behind c o given h t (length pre) k _ refl)

-- ---- the component that stands from `from` to the end of some octets
module _ (s : Octets) (o : AreOctets s) (from given : ℕ) (h : given < 256) (k : from < length s) (short : length s ≤ 4096) where
  pub fits_from : ReadingFits (told (reading_from s from given))
  fits_from =
      let size = length-take-le from s (omega arith) in
      let cut = take-append-drop from s in
      let left = length-drop from s in
      rw (cut, size) at (fits_inside (take from s) (drop from s) given (replicate table_size 0) (omega (arith, length-replicate {A = ℕ} table_size 0)) (omega arith) (omega arith) (λ i. rw (get_or-drop from s i 0) (o (from + i))) h (omega arith))
