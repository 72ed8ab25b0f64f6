-- The entries of a table: those that a reading filled in are the parameters shown, and those that stand have identifiers.
use Prim.Native.Nat.{ℕ, zero, suc, ◌+◌, ◌*◌, ◌≤◌}
use mathlib.Core.Path.{◌≡◌, refl, sym, ap, ◌∙◌}
use mathlib.Core.Bool.{Bool, true, false, and-eq-true_iff}
use mathlib.Core.List.{List, [], ◌∷◌, ◌++◌, map, append_assoc}
use lib.ListN.{length, get_or, drop, length-append, length-drop}
use lib.Seq.{get_or-drop, drop-drop, drop-append-le}
use borrow.Author.Tests.{le-leb, leb-true}
use native.Mathlib.Nat.{add-zero}
use native.Mathlib.Omega.{arith}
use Rattle.element.specs.Octets.{Octets}
use Rattle.element.specs.Answer.{accepted}
use Rattle.component.specs.Table.{Entry, width, numbers, table_with, held, held_from, EntryStands, parameter_of}
use Rattle.component.specs.Standing.{Shows, Pairwise, none, more}
use Rattle.component.specs.Grammar.{Parameter}
use Rattle.component.proofs.Shown.{inside, content}
use Rattle.component.proofs.Composable.{Identified}
use Rattle.component.specs.Part.{fits}
use Rattle.component.specs.Composing.{entry_stands, taken_from, entries_from}
use Rattle.component.proofs.Taken.{taken, passed}

pub numbers_length : (es : List Entry) → length (numbers es) ≡ width * length es
unfolding numbers
numbers_length [] = refl
numbers_length (e ∷ es) = omega (arith, numbers_length es)

-- ---- a table holds the entries whose numbers were put into it
holds_from : (es : List Entry) (t : List ℕ) (i : ℕ) (rest : List ℕ) → drop (width * i) t ≡ numbers es ++ rest → held_from i (length es) t ≡ es
unfolding held_from numbers
holds_from [] t i rest d = refl
holds_from (e ∷ es) t i rest d =
    let at : (j : ℕ) → get_or t (width * i + j) 0 ≡ get_or (numbers (e ∷ es) ++ rest) j 0 = λ j. sym (get_or-drop (width * i) t j 0) ∙ rw d in
    let a : get_or t (width * i) 0 ≡ e.number = rw add-zero at (at 0) in
    let n : width * (i + 1) ≡ width * i + width = omega arith in
    let f : drop (width * (i + 1)) t ≡ numbers es ++ rest = rw n (sym (drop-drop width (width * i) t) ∙ rw d) in
    rw (a, at 1, at 2, at 3, at 4, holds_from es t (i + 1) rest f)

pub holds : (es : List Entry) (t : List ℕ) → held_from 0 (length es) (table_with es t) ≡ es
unfolding table_with
holds es t = holds_from es (table_with es t) 0 (drop (length (numbers es)) t) refl

pub roomy : (es : List Entry) (t : List ℕ) → width * length es ≤ length (table_with es t)
unfolding table_with
roomy es t = omega (arith, numbers_length es, length-append (numbers es) (drop (length (numbers es)) t))

-- where they fit, what stands behind them stays
module _ (es : List Entry) (t : List ℕ) (fits : width * length es ≤ length t) where
  pub table_length : length (table_with es t) ≡ length t
  unfolding table_with
  table_length = simp (length-append, length-drop) (omega (arith, numbers_length es))

  pub table_beside : (behind : List ℕ) → table_with es t ++ behind ≡ table_with es (t ++ behind)
  unfolding table_with
  table_beside behind =
      append_assoc (numbers es) _ behind ∙ ap (λ l. numbers es ++ l) (sym (drop-append-le (length (numbers es)) t behind (omega (arith, numbers_length es))))

-- ---- entries that show parameters are taken for them
module _ (s : Octets) where
  pub shown_taken : {es : List Entry} {ps : List Parameter} → Pairwise (Shows s) es ps → Identified ps → (i : ℕ) → taken_from i s es ≡ accepted ps
  unfolding taken_from entry_stands parameter_of fits
  shown_taken none _ i = refl
  shown_taken (more {a = e} h r) k i =
      rw (
        le-leb e.number 16383 (omega arith),
        le-leb e.form 1 (omega arith),
        le-leb (e.start + e.size) (length s) (inside h),
        shown_taken r k.2 (i + 1),
        h.number,
        h.form,
        content h,
      )

  pub shown_are : {es : List Entry} {ps : List Parameter} → Pairwise (Shows s) es ps → map (parameter_of s) es ≡ ps
  unfolding parameter_of
  shown_are none = refl
  shown_are (more h r) = rw (h.number, h.form, content h, shown_are r)

-- ---- and those that are taken stand
pub stands : {source : Octets} {e : Entry} → entry_stands source e ≡ true → EntryStands source e
unfolding entry_stands fits
stands h =
    let (n, p) = (and-eq-true_iff _ _).0 h in
    let (f, c) = (and-eq-true_iff _ _).0 p in
    record { number = leb-true _ _ n; form = leb-true _ _ f; content = leb-true _ _ c }

module _ {source : Octets} {e : Entry} where
  pub stands_true : EntryStands source e → entry_stands source e ≡ true
  unfolding entry_stands fits
  stands_true h = rw (le-leb _ _ h.number, le-leb _ _ h.form, le-leb _ _ h.content)

  pub stands_false : (EntryStands source e → ⊥) → entry_stands source e ≡ false
  stands_false h = go (entry_stands source e) refl
    where
      go : (a : Bool) → entry_stands source e ≡ a → a ≡ false
      go true p = absurd (h (stands p))
      go false p = refl

module _ (t : List ℕ) (s : Octets) where
  pub entries_stand : (i n : ℕ) {ps : List Parameter} → entries_from i n t s ≡ accepted ps → Identified ps × (length ps ≡ n)
  unfolding taken_from held_from parameter_of
  entries_stand i zero {ps} e = let f : ps ≡ [] = cc in rw f (tt, refl)
  entries_stand i (suc n) {ps} e =
      let (h, f) = passed (entry_stands s (held t i)) 16 i e in
      let v = stands h in
      let (qs, g, y) = taken (entries_from (i + 1) n t s) f in
      let (k, l) = entries_stand (i + 1) n g in
      let p : ps ≡ parameter_of s (held t i) ∷ qs = cc in
      rw p ((v.number, v.form, k), ap suc l)

pub as_many : {A B : Type 0} {R : A → B → Type 0} {xs : List A} {ys : List B} → Pairwise R xs ys → length xs ≡ length ys
as_many none = refl
as_many (more _ r) = ap suc (as_many r)
