-- What is shown of the first of the components that are left, in front of what those behind it left.
use Prim.Native.Nat.{ℕ, ◌*◌, ◌-◌, ◌≤◌}
use mathlib.Core.Path.{◌≡◌, refl, sym, ap, ap₂, ◌∙◌}
use mathlib.Core.List.{List, [], ◌∷◌, ◌++◌, map, append-nil}
use borrow.Author.Rules.{part_to_end}
use borrow.Rule.Slice.PartMut.{put_mid}
use lib.ListN.{length, take, drop, set, length-append, length-drop, drop_of_length-le, take-append-drop}
use lib.Seq.{drop_at, length-take-le}
use borrow.Author.Tests.{le-leb}
use native.Mathlib.Omega.{arith}
use Rattle.element.specs.Answer.{Answer, accepted}
use Rattle.component.specs.Table.{width, table_size, table_with}
use Rattle.component.proofs.Entries.{numbers_length, table_beside}
use Rattle.operation.specs.inner.Sheet.{shown_from}
use Rattle.operation.proofs.Reached.{copies}
use Rattle.package.specs.Caller.{Inside}
use Rattle.package.specs.Reading.{Placed, tables_with}
use Rattle.package.specs.Told.{inside, summary_of, places_with, summaries_with}
use Rattle.package.specs.inner.Leftover.{tables_rest, places_rest, summaries_rest}

pub in_front : {A : Type 0} (l : List A) (x : A) → 1 ≤ length l → set l 0 x ≡ x ∷ drop 1 l
in_front [] x h = absurd (omega arith)
in_front (y ∷ l) x h = refl

-- the entries of a component, in front of its 320 numbers
pub filled : (y : Placed) (ys : List Placed) (sheet zeros t : List ℕ) → length y.shown.entries ≤ 64 → table_size ≤ length t →
    sheet ≡ table_with y.shown.entries zeros → length sheet ≡ table_size →
    shown_from sheet (length y.shown.entries) (take table_size t ++ tables_with ys (drop table_size t)) ≡ tables_with (y ∷ ys) t
unfolding shown_from tables_with table_with
filled y ys sheet zeros t few enough e size =
    let es = y.shown.entries in
    let front = length-take-le table_size t enough in
    let rest = tables_with ys (drop table_size t) in
    let long = length-append (take table_size t) rest in
    let numbered = numbers_length es in
    rw (le-leb (length es) 64 few, le-leb (width * length es) (length sheet) (omega arith), le-leb (width * length es) (length (take table_size t ++ rest)) (omega arith), e)
    (copies es zeros (take table_size t ++ rest) ∙ sym (table_beside es (take table_size t) (omega arith) rest))

-- ---- a part behind the first `a`, lent and given back
module _ {A : Type 0} (a : ℕ) (l : List A) (h : a ≤ length l) where
  pub given_back : (ys : List A) → put_mid a (length l - a) l ys ≡ take a l ++ ys
  given_back ys = ap (λ r. take a l ++ r) (ap (λ r. ys ++ r) (drop_of_length-le (drop a l) {i = length l - a} (omega (arith, length-drop a l))) ∙ append-nil ys)

-- one in front of others
nothing : {A : Type 0} (n : ℕ) {l : List A} → l ≡ [] → drop n l ≡ []
nothing n {l} e = drop_of_length-le l {i = n} (omega (arith, ap length e))

pub in_front_of : {A B : Type 0} (f : A → B) (x : A) (xs : List A) (l : List B) → f x ∷ (map f xs ++ drop (length xs) (drop 1 l)) ≡ map f (x ∷ xs) ++ drop (length (x ∷ xs)) l
in_front_of f x xs [] = ap (λ r. f x ∷ (map f xs ++ r)) (nothing (length xs) refl)
in_front_of f x xs (y ∷ l) = refl

-- ---- what is lent, once those behind the first are accepted too
module _ {l : Answer (List Placed)} {ys : List Placed} (e : l ≡ accepted ys) (y : Placed) where
  pub table_shown : (zeros t : List ℕ) {sheet part after : List ℕ} {all : ℕ} → part ≡ tables_rest (take (length t - table_size) (drop table_size t)) l →
      after ≡ shown_from sheet all (put_mid table_size (length t - table_size) t part) → all ≡ length y.shown.entries → length y.shown.entries ≤ 64 →
      table_size ≤ length t → sheet ≡ table_with y.shown.entries zeros → length sheet ≡ table_size → after ≡ tables_with (y ∷ ys) t
  unfolding tables_rest
  table_shown zeros t {sheet} p q n few enough s size =
      q ∙ ap₂ (λ n l. shown_from sheet n l) n (given_back table_size t enough _ ∙ ap (λ r. take table_size t ++ r) (p ∙ rw (e, part_to_end t table_size)))
      ∙ filled y ys sheet zeros t few enough s size

  -- one for each component, of its place or of what is told of it
  shown_first : (f : Inside → ℕ) (p : List ℕ) {part after : List ℕ} → 1 ≤ length p → part ≡ (map f (map inside ys) ++ drop (length (map inside ys)) (take (length p - 1) (drop 1 p))) →
      after ≡ f (inside y) ∷ drop 1 (put_mid 1 (length p - 1) p part) → after ≡ map f (map inside (y ∷ ys)) ++ drop (length (map inside (y ∷ ys))) p
  shown_first f p h q r =
      let one : length (take 1 p) ≡ 1 = length-take-le 1 p h in
      r ∙ ap (λ l. f (inside y) ∷ l) (ap (drop 1) (given_back 1 p h _) ∙ drop_at (take 1 p) _ 1 one ∙ q ∙ rw (part_to_end p 1))
      ∙ in_front_of f (inside y) (map inside ys) p

  pub place_shown : (p : List ℕ) {part after : List ℕ} → 1 ≤ length p → part ≡ places_rest (take (length p - 1) (drop 1 p)) l →
      after ≡ y.place ∷ drop 1 (put_mid 1 (length p - 1) p part) → after ≡ places_with (map inside (y ∷ ys)) p
  unfolding places_rest places_with
  place_shown p h q r = shown_first (λ c. c.place) p h (q ∙ rw e) r

  pub summary_shown : (p : List ℕ) {part after : List ℕ} {summary : ℕ} → 1 ≤ length p → summary ≡ summary_of (inside y) → part ≡ summaries_rest (take (length p - 1) (drop 1 p)) l →
      after ≡ summary ∷ drop 1 (put_mid 1 (length p - 1) p part) → after ≡ summaries_with (map inside (y ∷ ys)) p
  unfolding summaries_rest summaries_with
  summary_shown p h s q r = shown_first summary_of p h (q ∙ rw e) (r ∙ rw s)

-- and where one of them is refused
pub unchanged : {A : Type 0} (a : ℕ) (l : List A) → a ≤ length l → {part : List A} → part ≡ take (length l - a) (drop a l) → put_mid a (length l - a) l part ≡ l
unchanged a l h e = given_back a l h _ ∙ ap (λ r. take a l ++ r) (e ∙ part_to_end l a) ∙ take-append-drop a l
