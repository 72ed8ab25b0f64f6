-- The words of the sizes against the paper's: one test over the keys of a word for each size that is fixed, and what holds of all others.
-- Assumes nothing.
use Prim.Native.Nat.{ℕ, zero, suc, ◌<◌, ◌≤◌}
use mathlib.Core.Path.{◌≡◌, refl, sym}
use mathlib.Core.Bool.{Bool, true, false, ◌&&◌, not}
use mathlib.Core.List.{List, [], ◌∷◌}
use lib.Dec.{ltb, eqb}
use borrow.Author.Tests.{ltb-true, ne_eqb}
use native.Mathlib.Decide.{dec_lt}
use native.Mathlib.Omega.{arith}
use Rattle.element.specs.Octets.{if}
use Rattle.operation.specs.Row.{key, some_of, among, allows}
use Rattle.operation.specs.Rows.{Fixed, fixed, sizes_in, sizes}
use Rattle.operation.specs.inner.Coded.{bit, Missizes, NoneOf}
use Rattle.operation.proofs.Lines.{each, all}

-- ---- a test of each number below a bound
unfoldable pub below : (ℕ → Bool) → ℕ → Bool
below test zero = true
below test (suc n) = test n && below test n

of_below : (test : ℕ → Bool) (n : ℕ) {k : ℕ} → k < n → below test n ≡ true → test k ≡ true
unfolding below
of_below test zero h e = absurd (omega arith)
of_below test (suc n) {k} h e = let (a, b) = each (test n) _ e in go (dec_lt k n) a λ l. of_below test n l b
  where
    go : Dec (k < n) → test n ≡ true → (k < n → test k ≡ true) → test k ≡ true
    go (yes l) a b = b l
    go (no l) a b = let q : k ≡ n = omega arith in rw q a

abbrev agree : Bool → Bool → Bool
agree true b = b
agree false b = not b

agreed : (a b : Bool) → agree a b ≡ true → a ≡ b
agreed true b e = sym e
agreed false true e = e
agreed false false e = refl

abbrev missizes : (word size k : ℕ) → Bool
missizes w n k = agree (bit w k) (not (allows (sizes k) n))

pub tested : (w n : ℕ) → below (missizes w n) 64 ≡ true → Missizes w n
tested w n e k h = agreed (bit w k) _ (of_below (missizes w n) 64 h e)

-- ---- the sizes that are fixed are below 6
abbrev small : Fixed → Bool
small f = all (λ m. ltb m 6) f.sizes

not_among : (ms : List ℕ) {n : ℕ} → 6 ≤ n → all (λ m. ltb m 6) ms ≡ true → among ms n ≡ false
unfolding all among some_of
not_among [] h e = refl
not_among (m ∷ ms) {n} h e =
    let (a, b) = each (ltb m 6) _ e in
    let l = ltb-true m 6 a in
    rw (ne_eqb n m (λ q. omega arith), not_among ms h b)

same_size : (ms : List ℕ) {n : ℕ} → 6 ≤ n → all (λ m. ltb m 6) ms ≡ true → allows ms n ≡ allows ms 6
unfolding allows
same_size [] h e = refl
same_size (m ∷ ms) h e = rw (not_among (m ∷ ms) h e, not_among (m ∷ ms) {n = 6} (omega arith) e)

same_sizes : (fs : List Fixed) {n : ℕ} → 6 ≤ n → all small fs ≡ true → (k : ℕ) → allows (sizes_in fs k) n ≡ allows (sizes_in fs k) 6
unfolding all sizes_in
same_sizes [] h e k = same_size [] h refl
same_sizes (f ∷ fs) {n} h e k = let (a, b) = each (small f) _ e in go (eqb k f.is) f.sizes (sizes_in fs k) (same_size f.sizes h a) (same_sizes fs h b k)
  where
    go : (t : Bool) (ms ls : List ℕ) → allows ms n ≡ allows ms 6 → allows ls n ≡ allows ls 6 → allows (if t ms ls) n ≡ allows (if t ms ls) 6
    go true ms ls p q = p
    go false ms ls p q = q

-- so one that is none of 0 to 5 is as wrong as 6
above_two : {n : ℕ} → (n ≡ 0 → ⊥) → (n ≡ 1 → ⊥) → (n ≡ 2 → ⊥) → 3 ≤ n
above_two a b c = omega arith

above_five : {n : ℕ} → 3 ≤ n → (n ≡ 3 → ⊥) → (n ≡ 4 → ⊥) → (n ≡ 5 → ⊥) → 6 ≤ n
above_five h a b c = omega arith

pub larger : (w : ℕ) {n : ℕ} → NoneOf n (5 ∷ 4 ∷ 3 ∷ 2 ∷ 1 ∷ 0 ∷ []) → below (missizes w 6) 64 ≡ true → Missizes w n
unfolding sizes all fixed
larger w ((((((_, a), b), c), d), f), g) e k l = rw (same_sizes fixed (above_five (above_two a b c) d f g) refl k) (tested w 6 e k l)

-- ---- and so are their keys within the first word
unsized : (fs : List Fixed) {k : ℕ} → 64 ≤ k → all (λ f. ltb f.is 64) fs ≡ true → sizes_in fs k ≡ []
unfolding all sizes_in
unsized [] h e = refl
unsized (f ∷ fs) {k} h e =
    let (a, b) = each (ltb f.is 64) _ e in
    let l = ltb-true f.is 64 a in
    rw (ne_eqb k f.is (λ q. omega arith)) (unsized fs h b)

pub beyond : {k : ℕ} (n : ℕ) → 64 ≤ k → false ≡ not (allows (sizes k) n)
unfolding sizes all fixed key allows
beyond n h = rw (unsized fixed h refl)
