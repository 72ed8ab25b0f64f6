-- What `judge_table`, `weigh_sizes`, `weigh` and `write` cite: what the row says of the table beside what is measured, as the weighing and the writing that they come to.
use Prim.Native.Nat.{ℕ, zero, suc, ◌+◌, ◌*◌, ◌<◌, ◌≤◌}
use mathlib.Core.Path.{◌≡◌, refl, sym, ap, ◌∙◌}
use mathlib.Core.List.{List, [], ◌∷◌}
use lib.ListN.{length}
use native.Mathlib.Omega.{arith}
use borrow.Author.Tests.{le-leb, lt-leb}
use Rattle.element.specs.Octets.{Octets}
use Rattle.element.specs.Answer.{Answer, accepted, refused, ◌>>=◌}
use Rattle.component.specs.declared.Id as D
use Rattle.component.specs.declared.Code as E
use Rattle.component.specs.Grammar.{Parameter}
use Rattle.component.specs.Table.{width, held, held_from, parameter_of}
use Rattle.component.specs.Composing.{entry_stands, taken_from, entries_from, entries_of, Sizes, sizes_of, measured, octets_of, composing}
use Rattle.element.specs.Output.{written, output_after}
use Rattle.component.proofs.Taken.{taken, passed, stopped}
use Rattle.component.proofs.Measuring.{ready}
use Rattle.component.proofs.Entries.{stands}
use Rattle.component.proofs.Putting.{part_length}
use Rattle.operation.specs.declared.engine.RowFault as F
use Rattle.operation.specs.declared.engine.RowFault.TheVariants as FV
use Rattle.operation.specs.Row.{Row}
use Rattle.operation.specs.Judge.{judge, count_named}
use Rattle.operation.specs.Finding.{row_of}
use Rattle.operation.specs.inner.Coded.{item_at, items_from, judgement, verdict, said, fault_in}
use Rattle.operation.specs.Items.{items_of}
use Rattle.operation.specs.Writing.{writing, weighing, weighing_sizes}

-- the items of a table are those of the parameters that it makes
same_items : (t : List ℕ) (source : Octets) (i n : ℕ) {ps : List Parameter} → entries_from i n t source ≡ accepted ps → items_from t i n ≡ items_of i ps
unfolding taken_from held_from items_from items_of item_at parameter_of
same_items t source i zero {ps} e = let f : [] ≡ ps = cc in rw (← f)
same_items t source i (suc n) {ps} e =
    let (a, f) = passed (entry_stands source (held t i)) 16 i e in
    let (qs, g, h) = taken (entries_from (i + 1) n t source) f in
    let k : parameter_of source (held t i) ∷ qs ≡ ps = cc in
    rw (← k, part_length source (held t i).start (held t i).size (stands a).content) (ap (λ xs. item_at t i ∷ xs) (same_items t source (i + 1) n g))

module _ (kind specifier count : ℕ) (t : List ℕ) where
  pub many : 64 < count → accepted 0 ≡ said kind specifier count t
  unfolding said
  many h = simp (lt-leb count 64)

  module _ (few : count ≤ 64) where
    pub cramped : length t < width * count → accepted 0 ≡ said kind specifier count t
    unfolding said
    cramped h = simp (le-leb count 64, lt-leb (width * count) (length t))

    pub judged : width * count ≤ length t → verdict kind specifier (items_from t 0 count) ≡ said kind specifier count t
    unfolding said
    judged h = simp (le-leb count 64, le-leb (width * count) (length t))

-- what is done with the parameters once the row has accepted them
module _ (kind : ℕ) (id : D.Id) (code : E.Code) (count : ℕ) (t : List ℕ) (source : Octets) {A : Type 0} (work : List Parameter → Answer A) where
  abbrev after : Answer A
  after = entries_of kind id count t source >>= λ ps. row_of kind code.first 0 >>= λ row. judge row (items_of 0 ps) >>= λ _. work ps

  pub not_measured : {n d : ℕ} → refused n d ≡ measured kind id count t source → refused n d ≡ after
  unfolding measured
  not_measured e = sym (stopped (entries_of kind id count t source) (sizes_of kind id.count) _ (sym e))

  then : {ps : List Parameter} → entries_of kind id count t source ≡ accepted ps → after ≡ (said kind code.first count t >>= λ _. work ps)
  unfolding verdict judgement
  then {ps} e =
      let r = ready kind id count t source e in
      simp (e, ← judged kind code.first count t r.few r.room, same_items t source 0 count r.entries) (go (row_of kind code.first 0))
    where
      step : (a : Answer Unit) (n : ℕ) (b : Answer A) → (a >>= λ _. b) ≡ ((a >>= λ _. accepted n) >>= λ _. b)
      step (accepted u) m b = refl
      step (refused n d) m b = refl

      go : (r : Answer Row) →
          (r >>= λ row. judge row (items_of 0 ps) >>= λ _. work ps)
          ≡ ((r >>= λ row. judge row (items_of 0 ps) >>= λ _. accepted (count_named row (items_of 0 ps))) >>= λ _. work ps)
      go (accepted row) = step (judge row (items_of 0 ps)) (count_named row (items_of 0 ps)) (work ps)
      go (refused n d) = refl

  -- where the row accepts, as without it; where it refuses, what it says
  pub fits : {named : ℕ} → accepted named ≡ said kind code.first count t → (entries_of kind id count t source >>= work) ≡ after
  fits {named} f = go (entries_of kind id count t source) refl
    where
      go : (a : Answer (List Parameter)) → entries_of kind id count t source ≡ a → (entries_of kind id count t source >>= work) ≡ after
      go (accepted ps) e = rw e (sym (rw (e, ← f) at (then e)))
      go (refused n d) e = rw e refl

  pub refuses : {sizes : Sizes} → accepted sizes ≡ measured kind id count t source → {n d : ℕ} → refused n d ≡ said kind code.first count t → refused n d ≡ after
  unfolding measured
  refuses e f = let (ps, g, _) = taken (entries_of kind id count t source) (sym e) in sym (then g ∙ rw (← f))

-- what is told of an answer is told of its last step
pub each : {A B C : Type 0} (a : Answer A) (f : A → Answer B) (g : A → Answer C) (h : B → C) →
    ((x : A) → a ≡ accepted x → (f x >>= λ y. accepted (h y)) ≡ g x) → ((a >>= f) >>= λ y. accepted (h y)) ≡ (a >>= g)
each (accepted x) f g h k = k x refl
each (refused n d) f g h k = refl

-- what is weighed of what was measured, by the word that is wanted of it
module _ (kind : ℕ) (id : D.Id) (code : E.Code) (count : ℕ) (t : List ℕ) (source : Octets) {A : Type 0} (say : Sizes → A) where
  abbrev weight : List Parameter → Answer A
  weight ps = accepted (say (sizes_of kind id.count ps))

  pub weighs : {sizes : Sizes} → accepted sizes ≡ measured kind id count t source → {named : ℕ} → accepted named ≡ said kind code.first count t →
      accepted (say sizes) ≡ after kind id code count t source weight
  unfolding measured
  weighs {sizes} e f = go (entries_of kind id count t source) e ∙ fits kind id code count t source weight f
    where
      go : (a : Answer (List Parameter)) → accepted sizes ≡ (a >>= λ ps. accepted (sizes_of kind id.count ps)) → accepted (say sizes) ≡ (a >>= weight)
      go (accepted ps) g = let k : sizes ≡ sizes_of kind id.count ps = cc in rw k refl
      go (refused n d) g = let z : ◌≡◌ {A = ℕ} 0 1 = cc in absurd (omega arith)

  pub weight_refused : {sizes : Sizes} → accepted sizes ≡ measured kind id count t source → {n d : ℕ} → refused n d ≡ said kind code.first count t →
      refused n d ≡ after kind id code count t source weight
  weight_refused e f = refuses kind id code count t source weight e f

  pub no_weight : {n d : ℕ} → refused n d ≡ measured kind id count t source → refused n d ≡ after kind id code count t source weight
  no_weight e = not_measured kind id code count t source weight e

-- the octets of the whole, by what `weigh_sizes` says
module _ (kind : ℕ) (id : D.Id) (code : E.Code) (count : ℕ) (t : List ℕ) (source : Octets) where
  whole : (weighing_sizes kind id code count t source >>= λ z. accepted z.whole) ≡ weighing kind id code count t source
  unfolding weighing weighing_sizes
  whole =
      each (entries_of kind id count t source) _ _ (λ z. z.whole) λ ps _.
      each (row_of kind code.first 0) _ _ (λ z. z.whole) λ row _.
      each (judge row (items_of 0 ps)) _ _ (λ z. z.whole) (λ _ _. refl)

  pub whole_weighed : {sizes : Sizes} → accepted sizes ≡ weighing_sizes kind id code count t source → accepted sizes.whole ≡ weighing kind id code count t source
  whole_weighed e = rw (← e) at whole

  pub whole_refused : {n d : ℕ} → refused n d ≡ weighing_sizes kind id code count t source → refused n d ≡ weighing kind id code count t source
  whole_refused e = rw (← e) at whole

module _ (kind : ℕ) (id : D.Id) (code : E.Code) (count : ℕ) (t : List ℕ) (source : Octets) where
  -- what the writer leaves in the output
  module _ (out : Octets) where
    abbrev Outcome : (answer : Answer ℕ) (after : Octets) → Type 0
    Outcome answer after =
        (answer ≡ written (writing kind id code count t source (length out)))
        × (after ≡ output_after out (writing kind id code count t source (length out)))

    pub composes : {named : ℕ} → accepted named ≡ said kind code.first count t → {answer : Answer ℕ} {after : Octets} →
        (answer ≡ written (composing kind id code count t source (length out)))
        × (after ≡ output_after out (composing kind id code count t source (length out))) → Outcome answer after
    unfolding writing composing
    composes f p =
        let e = fits kind id code count t source (λ ps. octets_of kind id code ps (length out)) f in
        (p.0 ∙ ap written e, p.1 ∙ ap (output_after out) e)

    unchanged : {n d : ℕ} → refused n d ≡ writing kind id code count t source (length out) → Outcome (refused n d) out
    unfolding written output_after
    unchanged e = (ap written e, ap (output_after out) e)

    pub row_refuses : {sizes : Sizes} → accepted sizes ≡ measured kind id count t source → {n d : ℕ} → refused n d ≡ said kind code.first count t →
        Outcome (refused n d) out
    unfolding writing
    row_refuses e f = unchanged (refuses kind id code count t source (λ ps. octets_of kind id code ps (length out)) e f)

    pub measure_refuses : {n d : ℕ} → refused n d ≡ measured kind id count t source → Outcome (refused n d) out
    unfolding writing
    measure_refuses e = unchanged (not_measured kind id code count t source (λ ps. octets_of kind id code ps (length out)) e)

    -- each fault is a refusal
    pub row_answers : {sizes : Sizes} → accepted sizes ≡ measured kind id count t source → (fault : F.RowFault) →
        fault_in fault ≡ said kind code.first count t → Outcome (fault_in fault) out
    row_answers e FV.NoRow f = row_refuses e f
    row_answers e (FV.Again entry) f = row_refuses e f
    row_answers e (FV.WrongSize entry) f = row_refuses e f
    row_answers e (FV.Missing number) f = row_refuses e f
    row_answers e (FV.Both entry) f = row_refuses e f
