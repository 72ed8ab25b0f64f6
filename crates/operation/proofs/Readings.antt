-- The steps of a reading: its row, which does not hang on the place that 11 would point to, and what stands behind them.
use Prim.Native.Nat.{ℕ, ◌<◌, ◌≤◌}
use mathlib.Core.Path.{◌≡◌, refl, sym, ap, ◌∙◌}
use mathlib.Core.Bool.{Bool, true, false, ◌&&◌}
use mathlib.Core.List.{List, [], ◌∷◌, map}
use mathlib.Core.Logic.{◌⊎◌, inl, inr, ⊎_elim}
use lib.ListN.{length, get_or, drop}
use lib.Seq.{get_or-take, get_or-drop}
use lib.Dec.{eqb, leb}
use borrow.Author.Tests.{le-leb, lt-ltb, lt-leb, eqb-true}
use native.Mathlib.Nat.{add-zero}
use native.Mathlib.Omega.{arith}
use Rattle.element.specs.Octets.{Octets, if}
use Rattle.element.specs.Answer.{Answer, accepted, refused, ◌>>◌, check}
use Rattle.component.specs.Table.{table_size}
use Rattle.component.specs.Layout.{Head, head_at, Layout, layout_at, layout_of, code_octets, operation_place}
use Rattle.component.specs.Types.{format_of}
use Rattle.component.specs.Grammar.{Component}
use Rattle.component.proofs.Shown.{Outlines}
use Rattle.component.proofs.Ends.{Ends, gives, stops}
use Rattle.operation.specs.Row.{Row}
use Rattle.operation.specs.Judge.{judge}
use Rattle.operation.specs.Rows.{Operation, operations}
use Rattle.operation.specs.Finding.{find, rowed, row_of}
use Rattle.operation.specs.Reading.{operation_in, shown_by, shown_of, reading_at, reading}
use Rattle.operation.specs.Items.{item_of}
use Rattle.operation.specs.Codes.{operation_of}
use Rattle.operation.specs.Demands.{its_operation}

-- a row is there, or 11 points wherever it is told to
abbrev Either : (ℕ → Answer Row) → Type 0
Either f = ((row : Row) × ((at : ℕ) → f at ≡ accepted row)) ⊎ ((at : ℕ) → f at ≡ refused 11 at)

module _ (kind specifier : ℕ) where
  find_either : (os : List Operation) → Either (λ at. find kind specifier at os)
  unfolding find
  find_either [] = inr (λ at. refl)
  find_either (o ∷ os) = step (eqb kind o.kind && eqb specifier o.specifier) (find_either os)
    where
      step : (t : Bool) → Either (λ at. find kind specifier at os) → Either (λ at. if t (accepted o.row) (find kind specifier at os))
      step true e = inl (o.row, λ at. refl)
      step false e = e

  pub either_row : Either (λ at. row_of kind specifier at)
  unfolding row_of
  either_row = go (rowed kind)
    where
      go : (t : Bool) → Either (λ at. if t (find kind specifier at operations) (accepted []))
      go true = find_either operations
      go false = inl ([], λ at. refl)

  pub anywhere : (a : ℕ) {row : Row} → row_of kind specifier a ≡ accepted row → (b : ℕ) → row_of kind specifier b ≡ accepted row
  anywhere a {row} e b =
      ⊎_elim (λ (found, f). f b ∙ sym (f a) ∙ e) (λ f. let g = f a in let z : ◌≡◌ {A = ℕ} 0 1 = cc in absurd (omega arith)) either_row

-- the same as what a step ends in
pub row_ends : (Q : ℕ → ℕ → Type 0) (kind specifier at : ℕ) → (row_of kind specifier 0 ≡ refused 11 0 → Q 11 at) →
    Ends (λ row. (b : ℕ) → row_of kind specifier b ≡ accepted row) Q (row_of kind specifier at)
row_ends Q kind specifier at q = ⊎_elim (λ (row, f). rw (f at) (gives f)) (λ f. rw (f at) (stops (q (f 0)))) (either_row kind specifier)

-- ---- a layout that was found: its operation is the component's
own_code : (s : Octets) (h : Head) → h.kind ≡ 0xE9 → get_or (code_octets s h) 0 0 ≡ get_or s h.code 0
unfolding code_octets format_of
own_code s h e = rw e (get_or-take 1 (drop h.code s) 0 0 (omega arith) ∙ get_or-drop h.code s 0 0 ∙ ap (λ i. get_or s i 0) (add-zero h.code))

pub same_operation : {s : Octets} {l : Layout} {c : Component} → Outlines s l c → (given : ℕ) → operation_in s l.head given ≡ its_operation c given
unfolding operation_in operation_of
same_operation {s} {l} {c} q given = rw (← q.kind, ← q.code) (go (eqb l.head.kind 0xE9) refl)
  where
    go : (t : Bool) → eqb l.head.kind 0xE9 ≡ t → if t (get_or s l.head.code 0) given ≡ if t (get_or (code_octets s l.head) 0 0) given
    go true e = sym (own_code s l.head (eqb-true _ 0xE9 e))
    go false e = refl

module _ (s : Octets) (given : ℕ) (l : Layout) where
  pub shown_by_lem : {row : Row} → row_of l.head.kind (operation_in s l.head given) (operation_place l.head) ≡ accepted row →
      shown_of s given l ≡ (judge row (map item_of l.entries) >> accepted (shown_by s l given row))
  unfolding shown_of
  shown_by_lem f = simp f

  pub not_shown : row_of l.head.kind (operation_in s l.head given) (operation_place l.head) ≡ refused 11 (operation_place l.head) → shown_of s given l ≡ refused 11 (operation_place l.head)
  unfolding shown_of
  not_shown f = simp f

pub laid_reads : (s : Octets) (from given room : ℕ) {l : Layout} → table_size ≤ room → layout_at s from ≡ accepted l → reading_at s from given room ≡ shown_of s given l
unfolding reading_at
laid_reads s from given room h e = simp (le-leb table_size room, e)

module _ (s : Octets) (given room : ℕ) {l : Layout} (h : table_size ≤ room) (e : layout_of s ≡ accepted l) where
  pub reads : {row : Row} → row_of l.head.kind (operation_in s l.head given) (operation_place l.head) ≡ accepted row →
      reading s given room ≡ (judge row (map item_of l.entries) >> accepted (shown_by s l given row))
  reads f = laid_reads s 0 given room h e ∙ shown_by_lem s given l f

  pub no_row : row_of l.head.kind (operation_in s l.head given) (operation_place l.head) ≡ refused 11 (operation_place l.head) → reading s given room ≡ refused 11 (operation_place l.head)
  no_row f = laid_reads s 0 given room h e ∙ not_shown s given l f

-- over 4,096 octets nothing but the table is looked at before 2
pub too_long : (s : Octets) (given room : ℕ) → 4096 < length s → reading s given room ≡ check (leb table_size room) 1 0 >> refused 2 0
unfolding reading_at layout_at head_at
too_long s given room h = simp (lt-ltb 0 (length s) (omega arith), lt-leb (length s) 4096 h)
