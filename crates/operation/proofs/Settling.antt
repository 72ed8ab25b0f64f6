-- 13 and 14 behind a walk that came to the end, by what it noted; and an arm of the code, which holds a row.
-- Assumes nothing.
use Prim.Native.Nat.{ℕ}
use mathlib.Core.Path.{◌≡◌, ap, ◌∙◌}
use mathlib.Core.Bool.{true, false, ◌&&◌, and-false}
use mathlib.Core.List.{List}
use lib.ListN.{length}
use lib.Dec.{eqb}
use Rattle.element.specs.Answer.{accepted, refused}
use Rattle.operation.specs.Row.{Row, Item, one_of, group_last}
use Rattle.operation.specs.Judge.{last_mark, present}
use Rattle.operation.specs.Finding.{row_of}
use Rattle.operation.specs.inner.Coded.{holds, keys_in, words_of, apart, must_of, group_of, between, sound, Names, Asks, judgement, verdict, fault_in, judged_in, Judges}
use Rattle.operation.specs.inner.Firsts.{lacking, Clear, Walked, Faulted, Settles}
use Rattle.std.specs.Prelude.{Result, Ok, Err}
use Rattle.operation.specs.declared.engine.RowFault as F
use Rattle.operation.specs.declared.engine.Notes as N
use Rattle.operation.proofs.Lines.{each}
use Rattle.operation.proofs.Musts.{by_notes, by_one, by_both}
use Rattle.operation.proofs.Sets.{row_names}
use Rattle.operation.proofs.Verdicts as Verdict

module _ (row : Row) (list group : List ℕ) (one other : ℕ) (notes : N.Notes) (xs : List Item) (asks : Asks row list group one other) (c : Clear row notes xs) where
  abbrev seen : List ℕ
  seen = notes.seen

  pub missing : {d : ℕ} → refused 13 d ≡ lacking list group one other seen → refused 13 d ≡ judgement row xs
  missing e = Verdict.missing row xs notes c (e ∙ by_notes asks seen xs c.noted)

  module _ (e : accepted tt ≡ lacking list group one other seen) where
    met : accepted tt ≡ present row xs
    met = e ∙ by_notes asks seen xs c.noted

    pub both : eqb one other ≡ false → holds seen one ≡ true → holds seen other ≡ true → refused 14 (last_mark (one_of one other) 0 xs) ≡ judgement row xs
    both d a b = Verdict.both row xs notes c met (by_both asks seen xs c.noted d a b)

    fits : (eqb one other ≡ false → (holds seen one && holds seen other) ≡ false) → accepted notes.named ≡ judgement row xs
    fits z = Verdict.fits row xs notes c met (by_one asks seen xs c.noted z)

    pub no_choice : (eqb one other ≡ false → ⊥) → accepted notes.named ≡ judgement row xs
    no_choice z = fits λ d. absurd (z d)

    pub not_one : holds seen one ≡ false → accepted notes.named ≡ judgement row xs
    not_one a = fits λ _. ap (λ t. t && holds seen other) a

    pub not_other : holds seen other ≡ false → accepted notes.named ≡ judgement row xs
    not_other b = fits λ _. ap (λ t. holds seen one && t) b ∙ and-false (holds seen one)

-- ---- an arm: the words, the lists and the choice that it hands on are those of the paper's row
asked : {row : Row} {names list group : List ℕ} {one other : ℕ} → names ≡ words_of row (length names) → list ≡ must_of row → group ≡ group_of row →
    sound row (length names) one other ≡ true → Asks row list group one other × Names row names
unfolding sound
asked {row} {names} w l g h =
    let (a, b) = each (apart (length names) (keys_in row)) _ h in
    let (u, i) = each (group_last row) _ b in
    let (c, d) = each (between _ _ row) _ i in
    (record { listed = l; grouped = g; last = u; chosen = c; two = d }, row_names row w a)

module _ (kind : ℕ) {specifier k : ℕ} {row : Row} {names : List ℕ} {xs : List Item} (s : specifier ≡ k) (e : row_of kind k 0 ≡ accepted row)
    (w : names ≡ words_of row (length names)) where
  -- what names the fault where its walk stopped, and what settles a walk that came to the end, judge by the row
  pub faulty : {fault : F.RowFault} {stop : ℕ} → apart (length names) (keys_in row) ≡ true → Walked (Err stop) names xs → Faulted fault names stop xs →
      fault_in fault ≡ verdict kind specifier xs
  faulty a t f = let n = row_names row w a in Verdict.found xs kind s e (Verdict.faulty row xs (t row n) (f.judged row n))

  module _ {list group : List ℕ} {one other : ℕ} {r : Result ℕ F.RowFault} (l : list ≡ must_of row) (g : group ≡ group_of row)
      (h : sound row (length names) one other ≡ true) where
    pub settled : {notes : N.Notes} → Walked (Ok notes) names xs → Settles r list group one other notes xs → judged_in r ≡ verdict kind specifier xs
    settled t f = let (a, n) = asked w l g h in Verdict.found xs kind s e (f.judged row a (t row n))

    pub arm : Judges r list group one other names xs → judged_in r ≡ verdict kind specifier xs
    arm j = let (a, n) = asked w l g h in Verdict.found xs kind s e (j.judged row a n)
