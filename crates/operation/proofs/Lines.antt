-- What the laws of rows share: a test taken apart, a line's own keys, what meets a line, the mark of the last item on it.
use Prim.Native.Nat.{ℕ}
use mathlib.Core.Path.{◌≡◌, refl, sym}
use mathlib.Core.Bool.{Bool, true, false, ◌&&◌, ◌||◌, true≢false, or-true}
use mathlib.Core.List.{List, [], ◌∷◌, map, Memᴰ}
use lib.Dec.{eqb}
use borrow.Author.Tests.{eq-eqb}
use Rattle.element.specs.Octets.{if}
use Rattle.operation.specs.Row.{Line, must, one_of, any_of, may, Item, members, some_of, among, on_line}
use Rattle.operation.specs.Book.{Each, none, more}
use Rattle.operation.specs.Judge.{occurs, met, doubled, last_mark, remark}

pub or-false : (a b : Bool) → (a || b) ≡ false → (a ≡ false) × (b ≡ false)
or-false true b e = (cc, cc)
or-false false b e = (refl, e)

pub each : (a b : Bool) → (a && b) ≡ true → (a ≡ true) × (b ≡ true)
each true b e = (refl, e)
each false b e = (cc, cc)

-- a test of all, as one that can be computed
unfoldable pub all : {A : Type 0} → (A → Bool) → List A → Bool
all test [] = true
all test (x ∷ xs) = test x && all test xs

pub of_all : {A : Type 0} (test : A → Bool) {x : A} {xs : List A} → Memᴰ x xs → all test xs ≡ true → test x ≡ true
unfolding all
of_all test {xs = []} m e = elim m [ ]
of_all test {xs = y ∷ xs} (Memᴰ.head q) e = rw q (each (test y) _ e).0
of_all test {xs = y ∷ xs} (Memᴰ.tail m) e = of_all test m (each (test y) _ e).1

-- what holds of each holds of a member, and the other way round
pub of_each : {A : Type 0} (P : A → Type 0) {x : A} {xs : List A} → Each P xs → Memᴰ x xs → P x
of_each P none m = elim m [ ]
of_each P (more h e) (Memᴰ.head q) = rw q h
of_each P (more h e) (Memᴰ.tail m) = of_each P e m

pub each_of : {A : Type 0} (P : A → Type 0) (xs : List A) → ((x : A) → Memᴰ x xs → P x) → Each P xs
each_of P [] h = none
each_of P (x ∷ xs) h = more (h x (Memᴰ.head refl)) (each_of P xs λ y m. h y (Memᴰ.tail m))

pub self : (k : ℕ) → eqb k k ≡ true
self k = eq-eqb k k refl

-- ---- what meets a line
-- of its members alone
pub some_same : (p q : ℕ → Bool) (ks : List ℕ) → ((k : ℕ) → among ks k ≡ true → p k ≡ q k) → some_of p ks ≡ some_of q ks
unfolding among some_of
some_same p q [] h = refl
some_same p q (j ∷ ks) h = rw (h j (rw (self j)), some_same p q ks λ k e. h k (rw e (or-true (eqb k j))))

module _ (xs ys : List Item) where
  pub met_same : (l : Line) → ((k : ℕ) → on_line l k ≡ true → occurs k ys ≡ occurs k xs) → (met l ys ≡ met l xs) × (doubled l ys ≡ doubled l xs)
  unfolding on_line members some_of among met doubled
  met_same (must j) h = (h j (rw (self j)), refl)
  met_same (one_of i j) h = rw (h i (rw (self i)), h j (simp (self j, or-true))) (refl, refl)
  met_same (any_of i js) h = (some_same (λ k. occurs k ys) (λ k. occurs k xs) (i ∷ js) h, refl)
  met_same (may j) h = (refl, refl)

-- ---- what relates the marks of each item on a choice, in a run and in the run remarked, relates the last ones, where both members occur
module _ (R : ℕ → ℕ → Type 0) (f : ℕ → ℕ) where
  choose : (t : Bool) {a b c d : ℕ} → (t ≡ true → R a b) → (t ≡ false → R c d) → R (if t a c) (if t b d)
  choose true y n = y refl
  choose false y n = n refl

  last_from : (i j : ℕ) (xs : List Item) {m n : ℕ} → (occurs i xs ≡ false → R m n) →
      ((x : Item) → Memᴰ x xs → on_line (one_of i j) x.is ≡ true → R (f x.mark) x.mark) →
      R (last_mark (one_of i j) m (map (remark f) xs)) (last_mark (one_of i j) n xs)
  unfolding occurs last_mark remark on_line members some_of among
  last_from i j [] h q = h refl
  last_from i j (x ∷ xs) h q =
      last_from i j xs (λ o. choose (on_line (one_of i j) x.is) (q x (Memᴰ.head refl)) λ e. h (rw (or-false (eqb x.is i) _ e).0 o))
      λ y m. q y (Memᴰ.tail m)

  pub last : (l : Line) (xs : List Item) → doubled l xs ≡ true → ((x : Item) → Memᴰ x xs → on_line l x.is ≡ true → R (f x.mark) x.mark) →
      R (last_mark l 0 (map (remark f) xs)) (last_mark l 0 xs)
  unfolding doubled
  last (must j) xs e = absurd (true≢false (sym e))
  last (one_of i j) xs e = last_from i j xs λ o. absurd (true≢false (cc (each (occurs i xs) _ e).0))
  last (any_of i js) xs e = absurd (true≢false (sym e))
  last (may j) xs e = absurd (true≢false (sym e))
