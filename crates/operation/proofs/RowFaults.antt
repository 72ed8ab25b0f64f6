-- A row accepts a run exactly where the run fits the table as the book words it, and refuses with the fault that the run has, and with no other.
use Prim.Native.Nat.{ℕ, ◌+◌, ◌<◌, ◌≤◌}
use mathlib.Core.Path.{◌≡◌, refl, sym, ap, ◌∙◌}
use mathlib.Core.Bool.{Bool, true, false, ◌&&◌, ◌||◌, not, true≢false}
use mathlib.Core.List.Memᴰ
use mathlib.Core.List.{List, [], ◌∷◌, ◌++◌, append_assoc, append-nil, Memᴰ}
use mathlib.Core.Logic.{◌⊎◌, inl, inr, ⊎_elim, ◌↔◌}
use lib.Dec.{leb, eqb}
use borrow.Author.Tests.{eqb-true, le-leb, lt-leb, leb-true, leb-false}
use native.Mathlib.Decide.{dec_le}
use native.Mathlib.Omega.{arith}
use Rattle.element.specs.Octets.{if}
use Rattle.element.specs.Answer.{Answer, accepted, refused, ◌>>◌, check}
use Rattle.component.proofs.Ends.{Ends, gives, stops}
use Rattle.operation.specs.Row.{Row, Line, must, one_of, any_of, may, asks, Item, members, some_of, among, on_line, named, repeats, allows}
use Rattle.operation.specs.Rows.{sizes}
use Rattle.operation.specs.Judge.{occurs, last_mark, once, sized, met, present, doubled, single, judge}
use Rattle.operation.specs.Book.{keys_of, times, Kept, occurred, first, second, any, allowed, Each, none, more, Once, Sized, Fits}
use Rattle.operation.specs.Faults.{First, Last, Unmet, Doubled, Missized, RowFault, again, missized, missing, both}
use Rattle.operation.proofs.Lines.{or-false, each, of_each, self}

-- ---- what occurs
-- what occurs is counted
counts : (k : ℕ) (xs : List Item) → occurs k xs ≡ leb 1 (times k (keys_of xs))
unfolding occurs times
counts k [] = refl
counts k (x ∷ xs) = step (eqb x.is k) (times k (keys_of xs)) (counts k xs)
  where
    step : (t : Bool) (n : ℕ) {o : Bool} → o ≡ leb 1 n → (t || o) ≡ leb 1 (if t (1 + n) n)
    step true n e = sym (le-leb 1 (1 + n) (omega arith))
    step false n e = e

module _ (k : ℕ) (xs : List Item) where
  some : occurs k xs ≡ true → 1 ≤ times k (keys_of xs)
  some e = leb-true 1 _ (sym (counts k xs) ∙ e)

  absent : occurs k xs ≡ false → times k (keys_of xs) ≡ 0
  absent e = let h : times k (keys_of xs) < 1 = leb-false 1 _ (sym (counts k xs) ∙ e) in omega arith

-- an item moves from the rest to the seen
moved : (t : Bool) (a b : ℕ) → if t (1 + a) a + b ≡ a + if t (1 + b) b
moved true a b = omega arith
moved false a b = omega arith

room : (t : Bool) (a : ℕ) → (t ≡ true → a ≡ 0) → a ≤ 1 → if t (1 + a) a ≤ 1
room true a z h = omega (arith, z refl)
room false a z h = h

module _ (k : ℕ) (xs : List Item) where
  occurring : 1 ≤ times k (keys_of xs) → occurs k xs ≡ true
  occurring h = counts k xs ∙ le-leb 1 _ h

  not_occurring : times k (keys_of xs) ≡ 0 → occurs k xs ≡ false
  not_occurring h = counts k xs ∙ lt-leb 1 (times k (keys_of xs)) (omega arith)

other : (t : Bool) → (t ≡ true → ⊥) → t ≡ false
other true h = absurd (h refl)
other false h = refl

not_other : (t : Bool) → (t ≡ false → ⊥) → t ≡ true
not_other true h = refl
not_other false h = absurd (h refl)

-- ---- 12
pass : (a b c : Bool) → (a ≡ true → b ≡ false → c ≡ false) → not (a && (not b && c)) ≡ true
pass true false c h = rw (h refl refl)
pass true true c h = refl
pass false b c h = refl

module _ (row : Row) where
  -- a key that the next item has was not seen
  fresh : (seen : List Item) (y : Item) (ys : List Item) →
      ((k : ℕ) → named row k ≡ true → repeats k ≡ false → times k (keys_of seen) + times k (keys_of (y ∷ ys)) ≤ 1) →
      named row y.is ≡ true → repeats y.is ≡ false → occurs y.is seen ≡ false
  unfolding times
  fresh seen y ys h n r = not_occurring y.is seen (let e = rw (self y.is) at (h y.is n r) in omega arith)

  onward : (seen : List Item) (y : Item) (ys : List Item) →
      ((k : ℕ) → named row k ≡ true → repeats k ≡ false → times k (keys_of seen) + times k (keys_of (y ∷ ys)) ≤ 1) →
      (k : ℕ) → named row k ≡ true → repeats k ≡ false → times k (keys_of (y ∷ seen)) + times k (keys_of ys) ≤ 1
  unfolding times
  onward seen y ys h k n r = rw (moved (eqb y.is k) (times k (keys_of seen)) (times k (keys_of ys))) (h k n r)

  once_passes : (seen ys : List Item) → ((k : ℕ) → named row k ≡ true → repeats k ≡ false → times k (keys_of seen) + times k (keys_of ys) ≤ 1) →
      once row seen ys ≡ accepted tt
  unfolding once
  once_passes seen [] h = refl
  once_passes seen (y ∷ ys) h = rw (pass _ _ _ (fresh seen y ys h)) (once_passes (y ∷ seen) ys (onward seen y ys h))

  once_refuses : (seen before : List Item) (x : Item) (behind : List Item) →
      ((k : ℕ) → named row k ≡ true → repeats k ≡ false → times k (keys_of seen) + times k (keys_of before) ≤ 1) →
      named row x.is ≡ true → repeats x.is ≡ false → 1 ≤ times x.is (keys_of seen) + times x.is (keys_of before) →
      once row seen (before ++ (x ∷ behind)) ≡ refused 12 x.mark
  unfolding once times
  once_refuses seen [] x behind h n r o = let e = occurring x.is seen (omega arith) in rw (n, r, e)
  once_refuses seen (y ∷ before) x behind h n r o =
      rw (pass _ _ _ (fresh seen y before h))
      (once_refuses (y ∷ seen) before x behind (onward seen y before h) n r (rw (moved (eqb y.is x.is) (times x.is (keys_of seen)) (times x.is (keys_of before))) o))

-- ---- 26
module _ (row : Row) where
  -- a test of one item: it is of a size fixed for it, or the row names it and it is not
  right : (x : Item) → Sized row x → (not (named row x.is) || allows (sizes x.is) x.size) ≡ true
  right x = go (named row x.is)
    where
      go : (t : Bool) {u : Bool} → (t ≡ true → u ≡ true) → (not t || u) ≡ true
      go true h = h refl
      go false h = refl

  either_size : (x : Item) → Missized row x ⊎ Sized row x
  either_size x = go (named row x.is) (allows (sizes x.is) x.size)
    where
      go : (t u : Bool) → ((t ≡ true) × (u ≡ false)) ⊎ (t ≡ true → u ≡ true)
      go true true = inr λ _. refl
      go true false = inl (refl, refl)
      go false u = inr λ e. absurd (true≢false (sym e))

  pub not_missized : (x : Item) → (Missized row x → ⊥) → Sized row x
  not_missized x h = ⊎_elim (λ m. absurd (h m)) (λ s. s) (either_size x)

  sized_passes : {xs : List Item} → Each (Sized row) xs → sized row xs ≡ accepted tt
  unfolding sized
  sized_passes none = refl
  sized_passes (more {x = x} s e) = rw (right x s) (sized_passes e)

  sized_refuses : {xs : List Item} {x : Item} → First (Missized row) xs x → sized row xs ≡ refused 26 x.mark
  unfolding sized
  sized_refuses (First.here (n, a)) = rw (n, a)
  sized_refuses (First.later {y = y} h f) = rw (right y (not_missized y h)) (sized_refuses f)

  -- the first of a wrong size, or none
  find_missized : (xs : List Item) → ((x : Item) × First (Missized row) xs x) ⊎ Each (Sized row) xs
  find_missized [] = inr none
  find_missized (y ∷ ys) = go (either_size y) (find_missized ys)
    where
      go : Missized row y ⊎ Sized row y → ((x : Item) × First (Missized row) ys x) ⊎ Each (Sized row) ys →
          ((x : Item) × First (Missized row) (y ∷ ys) x) ⊎ Each (Sized row) (y ∷ ys)
      go (inl m) r = inl (y, First.here m)
      go (inr s) (inl (x, f)) = inl (x, First.later (λ (n, a). true≢false (sym (s n) ∙ a)) f)
      go (inr s) (inr e) = inr (more s e)

-- ---- 13
module _ (xs : List Item) where
  abbrev Ks : List ℕ
  Ks = keys_of xs

  none_occurs : (ks : List ℕ) → some_of (λ k. occurs k xs) ks ≡ false → Each (λ k. times k Ks ≡ 0) ks
  unfolding some_of
  none_occurs [] e = none
  none_occurs (k ∷ ks) e = let (a, b) = or-false (occurs k xs) _ e in more (absent k xs a) (none_occurs ks b)

  one_occurs : {ks : List ℕ} → some_of (λ k. occurs k xs) ks ≡ true → Each (λ k. times k Ks ≡ 0) ks → ⊥
  unfolding some_of
  one_occurs e none = true≢false (sym e)
  one_occurs e (more {x = k} z n) = one_occurs (sym (rw (not_occurring k xs z)) ∙ e) n

  -- what the walk finds of a line is as it is counted
  unmet : (l : Line) → met l xs ≡ false → Unmet Ks l
  unfolding met
  unmet (must j) e = absent j xs e
  unmet (one_of i j) e = let (a, b) = or-false (occurs i xs) _ e in (absent i xs a, absent j xs b)
  unmet (any_of i js) e = none_occurs (i ∷ js) e
  unmet (may j) e = absurd (true≢false e)

  not_unmet : (l : Line) → met l xs ≡ true → Unmet Ks l → ⊥
  unfolding met
  not_unmet (must j) e z = true≢false (sym e ∙ not_occurring j xs z)
  not_unmet (one_of i j) e (a, b) = true≢false (sym e ∙ rw (not_occurring i xs a, not_occurring j xs b))
  not_unmet (any_of i js) e z = one_occurs e z
  not_unmet (may j) e z = z

  met_line : (l : Line) → (Unmet Ks l → ⊥) → met l xs ≡ true
  met_line l h = not_other _ λ e. h (unmet l e)

  present_passes : {ls : Row} → Each (λ l. Unmet Ks l → ⊥) ls → present ls xs ≡ accepted tt
  unfolding present
  present_passes none = refl
  present_passes (more {x = l} h e) = rw (met_line l h) (present_passes e)

  present_refuses : {ls : Row} {l : Line} → First (Unmet Ks) ls l → present ls xs ≡ refused 13 (asks l)
  unfolding present
  present_refuses (First.here {x = l} h) = let u = other (met l xs) (λ e. not_unmet l e h) in rw u
  present_refuses (First.later {y = l} h f) = rw (met_line l h) (present_refuses f)

  -- ---- 14
  not_last : (l : Line) {ys : List Item} (m : ℕ) → Each (λ y. on_line l y.is ≡ true → ⊥) ys → last_mark l m ys ≡ m
  unfolding last_mark
  not_last l m none = refl
  not_last l m (more h e) = rw (other _ h) (not_last l m e)

  is_last : (l : Line) {ys : List Item} {x : Item} (m : ℕ) → Last (λ y. on_line l y.is ≡ true) ys x → last_mark l m ys ≡ x.mark
  unfolding last_mark
  is_last l m (Last.here {x = x} h e) = rw h (not_last l x.mark e)
  is_last l m (Last.later f) = is_last l _ f

  twice : (l : Line) → doubled l xs ≡ true → Doubled Ks l
  unfolding doubled
  twice (must j) e = true≢false (sym e)
  twice (one_of i j) e = let (a, b) = each (occurs i xs) _ e in (some i xs a, some j xs b)
  twice (any_of i js) e = true≢false (sym e)
  twice (may j) e = true≢false (sym e)

  not_twice : (l : Line) → doubled l xs ≡ false → Doubled Ks l → ⊥
  unfolding doubled
  not_twice (must j) e d = d
  not_twice (one_of i j) e (a, b) = true≢false (sym (rw (occurring i xs a, occurring j xs b)) ∙ e)
  not_twice (any_of i js) e d = d
  not_twice (may j) e d = d

  single_line : (l : Line) → (Doubled Ks l → ⊥) → doubled l xs ≡ false
  single_line l h = other _ λ e. h (twice l e)

  single_passes : {ls : Row} → Each (λ l. Doubled Ks l → ⊥) ls → single ls xs ≡ accepted tt
  unfolding single
  single_passes none = refl
  single_passes (more {x = l} h e) = rw (single_line l h) (single_passes e)

  single_refuses : {ls : Row} {l : Line} {x : Item} → First (Doubled Ks) ls l → Last (λ y. on_line l y.is ≡ true) xs x → single ls xs ≡ refused 14 x.mark
  unfolding single
  single_refuses (First.here {x = l} h) y = let d = not_other (doubled l xs) (λ e. not_twice l e h) in rw d (ap (λ k. refused 14 k) (is_last l 0 y))
  single_refuses (First.later {y = l} h f) y = rw (single_line l h) (single_refuses f y)

module _ {row : Row} {xs : List Item} where
  pub row_refuses : {n d : ℕ} → RowFault row xs n d → judge row xs ≡ refused n d
  unfolding judge times
  row_refuses (again before x behind e o n r t) = rw (e, once_refuses row [] before x behind (λ k p q. omega (arith, o k p q)) n r (omega arith))
  row_refuses (missized o f) = rw (once_passes row [] xs (λ k p q. omega (arith, o k p q)), sized_refuses row f)
  row_refuses (missing o s f) = rw (once_passes row [] xs (λ k p q. omega (arith, o k p q)), sized_passes row s, present_refuses xs f)
  row_refuses (both o s e f y) = rw (once_passes row [] xs (λ k p q. omega (arith, o k p q)), sized_passes row s, present_passes xs e, single_refuses xs f y)

-- ---- and back: what is refused has the fault
times_last : (k : ℕ) (before : List Item) (y : Item) → times k (keys_of (before ++ (y ∷ []))) ≡ times k (keys_of (y ∷ before))
unfolding times
times_last k [] y = refl
times_last k (x ∷ before) y = rw (times_last k before y) (swapped (eqb x.is k) (eqb y.is k) (times k (keys_of before)))
  where
    swapped : (a b : Bool) (n : ℕ) → if a (1 + if b (1 + n) n) (if b (1 + n) n) ≡ if b (1 + if a (1 + n) n) (if a (1 + n) n)
    swapped true true n = refl
    swapped true false n = refl
    swapped false true n = refl
    swapped false false n = refl

module _ (row : Row) where
  -- one more item, that is no second
  once_more : (before : List Item) (y : Item) → Once row (keys_of before) → (named row y.is ≡ true → repeats y.is ≡ false → times y.is (keys_of before) ≡ 0) →
      Once row (keys_of (before ++ (y ∷ [])))
  unfolding times
  once_more before y o h k n r =
      rw (times_last k before y)
      (room (eqb y.is k) (times k (keys_of before)) (λ t. let e = eqb-true y.is k t in rw (← e) (h (rw e n) (rw e r))) (o k n r))

  -- the walk for 12: what was seen stands before what is left
  once_ends : (all seen before ys : List Item) → all ≡ before ++ ys → ((k : ℕ) → times k (keys_of seen) ≡ times k (keys_of before)) → Once row (keys_of before) →
      Ends (λ _. Once row (keys_of all)) (RowFault row all) (once row seen ys)
  unfolding once times
  once_ends all seen before [] e s o = gives (let p = e ∙ append-nil before in rw p o)
  once_ends all seen before (y ∷ ys) e s o =
      go (named row y.is) (repeats y.is) (occurs y.is seen) refl refl refl λ h.
      once_ends all (y ∷ seen) (before ++ (y ∷ [])) ys (e ∙ sym (append_assoc before (y ∷ []) ys))
      (λ k. ap (λ n. if (eqb y.is k) (1 + n) n) (s k) ∙ sym (times_last k before y))
      (once_more before y o λ n r. sym (s y.is) ∙ absent y.is seen (h n r))
    where
      go : (a b c : Bool) → named row y.is ≡ a → repeats y.is ≡ b → occurs y.is seen ≡ c →
          ((named row y.is ≡ true → repeats y.is ≡ false → occurs y.is seen ≡ false) → Ends (λ _. Once row (keys_of all)) (RowFault row all) (once row (y ∷ seen) ys)) →
          Ends (λ _. Once row (keys_of all)) (RowFault row all) (check (not (a && (not b && c))) 12 y.mark >> once row (y ∷ seen) ys)
      go true false true p q r f = stops (again before y ys e o p q (omega (arith, some y.is seen r, s y.is)))
      go true false false p q r f = f λ _ _. r
      go true true c p q r f = f λ _ z. absurd (true≢false (sym q ∙ z))
      go false b c p q r f = f λ z _. absurd (true≢false (sym z ∙ p))

module _ (xs : List Item) where
  absent_line : (l : Line) → Dec (Unmet (keys_of xs) l)
  absent_line l = by (met l xs) refl
    where
      by : (t : Bool) → met l xs ≡ t → Dec (Unmet (keys_of xs) l)
      by true e = no (not_unmet xs l e)
      by false e = yes (unmet xs l e)

  doubled_line : (l : Line) → Dec (Doubled (keys_of xs) l)
  doubled_line l = by (doubled l xs) refl
    where
      by : (t : Bool) → doubled l xs ≡ t → Dec (Doubled (keys_of xs) l)
      by true e = yes (twice xs l e)
      by false e = no (not_twice xs l e)

-- the first of a list, or none
find_first : {P : Line → Type 0} → ((l : Line) → Dec (P l)) → (ls : Row) → ((l : Line) × First P ls l) ⊎ Each (λ l. P l → ⊥) ls
find_first d [] = inr none
find_first {P} d (l ∷ ls) = go (d l) (find_first d ls)
  where
    go : Dec (P l) → ((m : Line) × First P ls m) ⊎ Each (λ l. P l → ⊥) ls → ((m : Line) × First P (l ∷ ls) m) ⊎ Each (λ l. P l → ⊥) (l ∷ ls)
    go (yes p) r = inl (l, First.here p)
    go (no n) (inl (m, f)) = inl (m, First.later n f)
    go (no n) (inr e) = inr (more n e)

-- the last item on a line, where one is
find_last : (l : Line) (ys : List Item) → ((x : Item) × Last (λ y. on_line l y.is ≡ true) ys x) ⊎ Each (λ y. on_line l y.is ≡ true → ⊥) ys
find_last l [] = inr none
find_last l (y ∷ ys) = go (on_line l y.is) refl (find_last l ys)
  where
    go : (t : Bool) → on_line l y.is ≡ t → ((x : Item) × Last (λ y. on_line l y.is ≡ true) ys x) ⊎ Each (λ y. on_line l y.is ≡ true → ⊥) ys →
        ((x : Item) × Last (λ y. on_line l y.is ≡ true) (y ∷ ys) x) ⊎ Each (λ y. on_line l y.is ≡ true → ⊥) (y ∷ ys)
    go t p (inl (x, f)) = inl (x, Last.later f)
    go true p (inr e) = inl (y, Last.here p e)
    go false p (inr e) = inr (more (λ z. true≢false (sym z ∙ p)) e)

first_holds : {A : Type 0} {P : A → Type 0} {xs : List A} {x : A} → First P xs x → P x
first_holds (First.here p) = p
first_holds (First.later n f) = first_holds f

none_on : (i j : ℕ) {ys : List Item} → Each (λ y. on_line (one_of i j) y.is ≡ true → ⊥) ys → times i (keys_of ys) ≡ 0
unfolding times on_line members some_of among
none_on i j none = refl
none_on i j (more {x = y} h e) = rw (or-false (eqb y.is i) _ (other _ h)).0 (none_on i j e)

-- of a group one occurs, or all are absent
some_of_lem : (ks js : List ℕ) → (Each (λ j. times j ks ≡ 0) js → ⊥) → (j : ℕ) × Memᴰ j js × (1 ≤ times j ks)
some_of_lem ks [] h = absurd (h none)
some_of_lem ks (j ∷ js) h = go (dec_le 1 (times j ks)) λ z. some_of_lem ks js λ e. h (more z e)
  where
    go : Dec (1 ≤ times j ks) → (times j ks ≡ 0 → (i : ℕ) × Memᴰ i js × (1 ≤ times i ks)) → (i : ℕ) × Memᴰ i (j ∷ js) × (1 ≤ times i ks)
    go (yes a) f = (j, Memᴰ.head refl, a)
    go (no a) f = let (i, m, o) = f (omega arith) in (i, Memᴰ.tail m, o)

-- a line is kept where something meets it and not both of a choice do
kept_so : {ks : List ℕ} (l : Line) → (Unmet ks l → ⊥) → (Doubled ks l → ⊥) → Kept ks l
kept_so (must j) h k = occurred j (omega arith)
kept_so {ks} (one_of i j) h k = go (dec_le 1 (times i ks))
  where
    go : Dec (1 ≤ times i ks) → Kept ks (one_of i j)
    go (yes a) = first i j a (zero_so λ b. k (a, b))
      where
        zero_so : (1 ≤ times j ks → ⊥) → times j ks ≡ 0
        zero_so f = omega arith
    go (no a) = let z : times i ks ≡ 0 = omega arith in second i j z (one_so λ b. h (z, b))
      where
        one_so : (times j ks ≡ 0 → ⊥) → 1 ≤ times j ks
        one_so f = omega arith
kept_so {ks} (any_of i js) h k = let (j, m, o) = some_of_lem ks (i ∷ js) h in any i js j m o
kept_so (may j) h k = allowed j

wrong_so : {ks : List ℕ} {l : Line} → Kept ks l → (Unmet ks l → ⊥) × (Doubled ks l → ⊥)
wrong_so (occurred j h) = (λ z. omega arith, λ z. z)
wrong_so (first i j h z) = (λ u. omega arith, λ d. omega arith)
wrong_so (second i j z h) = (λ u. omega arith, λ d. omega arith)
wrong_so {ks} (any i js j m o) = (λ z. let a = of_each (λ i. times i ks ≡ 0) z m in omega arith, λ z. z)
wrong_so (allowed j) = (λ z. z, λ z. z)

all_kept : {ks : List ℕ} {ls : Row} → Each (λ l. Unmet ks l → ⊥) ls → Each (λ l. Doubled ks l → ⊥) ls → Each (Kept ks) ls
all_kept none none = none
all_kept (more h e) (more k f) = more (kept_so _ h k) (all_kept e f)

none_wrong : {ks : List ℕ} {ls : Row} → Each (Kept ks) ls → Each (λ l. Unmet ks l → ⊥) ls × Each (λ l. Doubled ks l → ⊥) ls
none_wrong none = (none, none)
none_wrong (more h e) = let (a, b) = none_wrong e in let (u, d) = wrong_so h in (more u a, more d b)

module _ (row : Row) (xs : List Item) where
  later_of : (l : Line) → Doubled (keys_of xs) l → (x : Item) × Last (λ y. on_line l y.is ≡ true) xs x
  later_of (must j) h = absurd h
  later_of (one_of i j) h = ⊎_elim (λ r. r) (λ e. absurd (let z = none_on i j e in let k = h.0 in omega arith)) (find_last (one_of i j) xs)
  later_of (any_of i js) h = absurd h
  later_of (may j) h = absurd h

  abbrev Outcome : Type 0
  Outcome = ((n : ℕ) × (d : ℕ) × RowFault row xs n d) ⊎ Fits row xs

  pub row_either : Outcome
  unfolding times
  row_either = go (once_ends row xs [] [] xs refl (λ k. refl) λ k _ _. omega arith)
    where
      lines : Once row (keys_of xs) → ((x : Item) × First (Missized row) xs x) ⊎ Each (Sized row) xs →
          ((l : Line) × First (Unmet (keys_of xs)) row l) ⊎ Each (λ l. Unmet (keys_of xs) l → ⊥) row →
          ((l : Line) × First (Doubled (keys_of xs)) row l) ⊎ Each (λ l. Doubled (keys_of xs) l → ⊥) row → Outcome
      lines o (inl (x, f)) q r = inl (26, x.mark, missized o f)
      lines o (inr s) (inl (l, f)) r = inl (13, asks l, missing o s f)
      lines o (inr s) (inr e) (inl (l, f)) = let (x, y) = later_of l (first_holds f) in inl (14, x.mark, both o s e f y)
      lines o (inr s) (inr e) (inr f) = inr (record { kept = all_kept e f; once = o; sized = s })

      go : {a : Answer Unit} → Ends (λ _. Once row (keys_of xs)) (RowFault row xs) a → Outcome
      go (gives o) = lines o (find_missized row xs) (find_first (absent_line xs) row) (find_first (doubled_line xs) row)
      go (stops {n} {d} f) = inl (n, d, f)

  row_accepts : Fits row xs → judge row xs ≡ accepted tt
  unfolding judge times
  row_accepts f =
      let (e, s) = none_wrong f.kept in
      rw (once_passes row [] xs (λ k p q. omega (arith, f.once k p q)), sized_passes row f.sized, present_passes xs e, single_passes xs s)

  pub exact : (judge row xs ≡ accepted tt) ↔ Fits row xs
  exact = (λ e. go e row_either, row_accepts)
    where
      go : judge row xs ≡ accepted tt → Outcome → Fits row xs
      go e (inl (n, d, f)) = let g = row_refuses f in let z : ◌≡◌ {A = ℕ} 0 1 = cc in absurd (omega arith)
      go e (inr f) = f

  pub row_faulty : {n d : ℕ} → judge row xs ≡ refused n d → RowFault row xs n d
  row_faulty {n} {d} e = go row_either
    where
      go : Outcome → RowFault row xs n d
      go (inl (m, c, f)) =
          let g = row_refuses f in
          let p : m ≡ n = cc in
          let q : c ≡ d = cc in
          rw (p, q) at f
      go (inr f) = let g = row_accepts f in let z : ◌≡◌ {A = ℕ} 0 1 = cc in absurd (omega arith)

-- what a fault points to that is no missing line
pub last_in : {P : Item → Type 0} {xs : List Item} {x : Item} → Last P xs x → Memᴰ x xs
last_in (Last.here h e) = Memᴰ.head refl
last_in (Last.later f) = Memᴰ.tail (last_in f)

pub first_in : {A : Type 0} {P : A → Type 0} {xs : List A} {x : A} → First P xs x → Memᴰ x xs
first_in (First.here h) = Memᴰ.head refl
first_in (First.later n f) = Memᴰ.tail (first_in f)

pub pointed_at : {row : Row} {xs : List Item} {n d : ℕ} → RowFault row xs n d → (n ≡ 13 → ⊥) → (x : Item) × Memᴰ x xs × (x.mark ≡ d)
pointed_at (again before x behind e o n r t) h = (x, rw e (Memᴰ.append_right before (Memᴰ.head refl)), refl)
pointed_at (missized {x} o f) h = (x, first_in f, refl)
pointed_at (missing o s f) h = absurd (h refl)
pointed_at (both {x = x} o s e f y) h = (x, last_in y, refl)
