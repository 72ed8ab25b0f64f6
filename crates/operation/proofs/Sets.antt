-- A set of keys in words of 64: the bits of a sum, the set with one key more, and the words of a row.
-- Assumes nothing.
use Prim.Native.Nat.{ℕ, zero, suc, ◌+◌, ◌*◌, ◌/◌, ◌%◌, ◌^◌, ◌<◌, ◌≤◌}
use mathlib.Core.Path.{◌≡◌, refl, sym, ap, ◌∙◌}
use mathlib.Core.Bool.{Bool, true, false, ◌&&◌, ◌||◌, not, true≢false, or_assoc}
use mathlib.Core.List.{List, [], ◌∷◌, ◌++◌}
use lib.ListN.{length, get_or, set, replicate, get_or-eq_default}
use lib.Seq.{get_or-set_same, get_or-set_other}
use lib.Dec.{eqb, ltb}
use borrow.Author.Tests.{eq-eqb, ne_eqb, eqb-true, eqb-false, not-true, ltb-true, ltb-false}
use lib.Pow.{pow-lt}
use native.Mathlib.Omega.{arith}
use native.Mathlib.Nat.{pow-suc, pow-succ', zero-add, add-zero, add_comm, one-mul, mod-eq_of_lt, div-div-eq-div-mul}
use Rattle.element.specs.Octets.{if}
use Rattle.operation.specs.Row.{Row, members, some_of, among, on_line, named}
use Rattle.operation.specs.inner.Coded.{bit, holds, Names, keys_in, word_of, words_from, words_of, apart}
use Rattle.operation.proofs.Lines.{each}

-- ---- the bits of a word, by halves

unfoldable half : (b w : ℕ) → ℕ
half zero w = w % 2
half (suc b) w = half b (w / 2)

half_is : (b w : ℕ) → half b w ≡ w / 2 ^ b % 2
unfolding half
half_is zero w = omega arith
half_is (suc b) w = half_is b (w / 2) ∙ rw (pow-succ' 2 b, div-div-eq-div-mul w 2 (2 ^ b))

no_half : (b : ℕ) → half b 0 ≡ 0
unfolding half
no_half zero = refl
no_half (suc b) = no_half b

-- a bit that was clear is set, and the others stay
here : (b w : ℕ) → half b w ≡ 0 → half b (w + 2 ^ b) ≡ 1
unfolding half
here zero w h = omega arith
here (suc b) w h = let e : (w + 2 ^ suc b) / 2 ≡ w / 2 + 2 ^ b = omega (arith, pow-suc 2 b) in rw e (here b (w / 2) h)

there : (b c w : ℕ) → half b w ≡ 0 → (c ≡ b → ⊥) → half c (w + 2 ^ b) ≡ half c w
unfolding half
there zero zero w h n = absurd (n refl)
there zero (suc c) w h n = let e : (w + 1) / 2 ≡ w / 2 = omega arith in rw e
there (suc b) zero w h n = omega (arith, pow-suc 2 b)
there (suc b) (suc c) w h n = let e : (w + 2 ^ suc b) / 2 ≡ w / 2 + 2 ^ b = omega (arith, pow-suc 2 b) in rw e (there b c (w / 2) h (λ f. n (ap suc f)))

-- and the word has room for it
room : (n b w : ℕ) → b < n → w < 2 ^ n → half b w ≡ 0 → w + 2 ^ b < 2 ^ n
unfolding half
room zero b w h l e = absurd (omega arith)
room (suc n) zero w h l e = omega (arith, pow-suc 2 n)
room (suc n) (suc b) w h l e = omega (arith, pow-suc 2 n, pow-suc 2 b, room n b (w / 2) (omega arith) (omega (arith, pow-suc 2 n)) e)

module _ (w b : ℕ) (h : bit w b ≡ false) where
  clear : half b w ≡ 0
  unfolding bit
  clear = let n = eqb-false (w / 2 ^ b % 2) 1 h in omega (arith, half_is b w, n)

  bit_added : (c : ℕ) → bit (w + 2 ^ b) c ≡ (eqb c b || bit w c)
  unfolding bit
  bit_added c = rw (← half_is c (w + 2 ^ b), ← half_is c w) (by (eqb c b) refl)
    where
      by : (t : Bool) → eqb c b ≡ t → eqb (half c (w + 2 ^ b)) 1 ≡ (t || eqb (half c w) 1)
      by true e = rw (eqb-true c b e, here b w clear)
      by false e = rw (there b c w clear (eqb-false c b e))

  pub bit_room : b < 64 → w < 2 ^ 64 → w + 2 ^ b < 2 ^ 64
  bit_room l m = room 64 b w l m clear

-- the code's bit
pub shifted : (b : ℕ) → b < 64 → 1 * 2 ^ b % 2 ^ 64 ≡ 2 ^ b
shifted b h = ap (λ x. x % 2 ^ 64) (one-mul (2 ^ b)) ∙ mod-eq_of_lt (pow-lt h)

-- ---- a set of keys

-- two keys of one word are one where their bits are
same_bit : (j k : ℕ) → k / 64 ≡ j / 64 → eqb (k % 64) (j % 64) ≡ eqb k j
same_bit j k e = by (eqb k j) refl
  where
    by : (t : Bool) → eqb k j ≡ t → eqb (k % 64) (j % 64) ≡ t
    by true f = eq-eqb _ _ (ap (λ x. x % 64) (eqb-true k j f))
    by false f = ne_eqb _ _ (λ (g : k % 64 ≡ j % 64). eqb-false k j f (omega arith))

other_word : (j k : ℕ) → (k / 64 ≡ j / 64 → ⊥) → eqb k j ≡ false
other_word j k n = ne_eqb k j (λ e. n (ap (λ x. x / 64) e))

no_bit : (b : ℕ) → bit 0 b ≡ false
unfolding bit
no_bit b = rw (← half_is b 0, no_half b)

zeros : (n i : ℕ) → ◌≡◌ {A = ℕ} (get_or (replicate n 0) i 0) 0
zeros zero i = refl
zeros (suc n) zero = refl
zeros (suc n) (suc i) = zeros n i

pub empty : (k : ℕ) → holds (replicate 13 0) k ≡ false
unfolding holds
empty k = ap (λ w. bit w (k % 64)) (zeros 13 (k / 64)) ∙ no_bit (k % 64)

-- words of 64 bits
abbrev pub Words : List ℕ → Type 0
Words s = (i : ℕ) → get_or s i 0 < 2 ^ 64

pub empty_words : Words (replicate 13 0)
empty_words i = rw (zeros 13 i) (omega arith)

module _ (s : List ℕ) (k : ℕ) where
  -- beyond the words there is no key
  pub beyond : length s ≤ k / 64 → holds s k ≡ false
  unfolding holds
  beyond h = rw (get_or-eq_default s 0 h) (no_bit (k % 64))

  pub inside : holds s k ≡ true → k / 64 < length s
  inside h = by (ltb (k / 64) (length s)) refl
    where
      by : (t : Bool) → ltb (k / 64) (length s) ≡ t → k / 64 < length s
      by true e = ltb-true (k / 64) (length s) e
      by false e = absurd (true≢false (sym h ∙ beyond (ltb-false (k / 64) (length s) e)))

  -- by the code's test of a bit
  pub within : eqb (get_or s (k / 64) 0 / 2 ^ (k % 64) % 2) 1 ≡ holds s k
  unfolding holds bit
  within = refl

  pub set_there : get_or s (k / 64) 0 / 2 ^ (k % 64) % 2 ≡ 1 → holds s k ≡ true
  set_there e = sym within ∙ eq-eqb _ _ e

  pub clear_there : (get_or s (k / 64) 0 / 2 ^ (k % 64) % 2 ≡ 1 → ⊥) → holds s k ≡ false
  clear_there e = sym within ∙ ne_eqb _ _ e

module _ (s : List ℕ) (j : ℕ) (h : holds s j ≡ false) where
  clear_bit : bit (get_or s (j / 64) 0) (j % 64) ≡ false
  unfolding holds
  clear_bit = h

  pub word_room : get_or s (j / 64) 0 < 2 ^ 64 → get_or s (j / 64) 0 + 2 ^ (j % 64) < 2 ^ 64
  word_room m = bit_room (get_or s (j / 64) 0) (j % 64) clear_bit (omega arith) m

  module _ (l : j / 64 < length s) where
    pub still_words : Words s → Words (set s (j / 64) (get_or s (j / 64) 0 + 2 ^ (j % 64)))
    still_words w i = by (eqb (j / 64) i) refl
      where
        by : (t : Bool) → eqb (j / 64) i ≡ t → get_or (set s (j / 64) (get_or s (j / 64) 0 + 2 ^ (j % 64))) i 0 < 2 ^ 64
        by true e = rw (← eqb-true (j / 64) i e, get_or-set_same s (j / 64) (get_or s (j / 64) 0 + 2 ^ (j % 64)) 0 l) (word_room (w (j / 64)))
        by false e = rw (get_or-set_other s (j / 64) i (get_or s (j / 64) 0 + 2 ^ (j % 64)) 0 (λ f. eqb-false (j / 64) i e (sym f))) (w i)

    pub one_more : (k : ℕ) → holds (set s (j / 64) (get_or s (j / 64) 0 + 2 ^ (j % 64))) k ≡ (eqb k j || holds s k)
    unfolding holds
    one_more k = by (eqb (k / 64) (j / 64)) refl
      where
        by : (t : Bool) → eqb (k / 64) (j / 64) ≡ t →
            bit (get_or (set s (j / 64) (get_or s (j / 64) 0 + 2 ^ (j % 64))) (k / 64) 0) (k % 64) ≡ (eqb k j || bit (get_or s (k / 64) 0) (k % 64))
        by true e =
            let f = eqb-true (k / 64) (j / 64) e in
            rw (f, get_or-set_same s (j / 64) (get_or s (j / 64) 0 + 2 ^ (j % 64)) 0 l, ← same_bit j k f)
            (bit_added (get_or s (j / 64) 0) (j % 64) clear_bit (k % 64))
        by false e =
            let n = eqb-false (k / 64) (j / 64) e in
            rw (get_or-set_other s (j / 64) (k / 64) (get_or s (j / 64) 0 + 2 ^ (j % 64)) 0 n, other_word j k n)

-- ---- the words of a row

module _ (js : List ℕ) (j k : ℕ) (has : (k : ℕ) → bit (word_of js (k / 64)) (k % 64) ≡ among js k) (n : among js j ≡ false) where
  one_key : (t : Bool) → eqb (j / 64) (k / 64) ≡ t → bit (if t (2 ^ (j % 64)) 0 + word_of js (k / 64)) (k % 64) ≡ (eqb k j || among js k)
  one_key true e =
      let f = sym (eqb-true (j / 64) (k / 64) e) in
      rw (add_comm (2 ^ (j % 64)) (word_of js (k / 64)), f, bit_added (word_of js (j / 64)) (j % 64) (has j ∙ n) (k % 64), same_bit j k f) (ap (λ t. eqb k j || t) (rw (← f) (has k)))
  one_key false e = rw (zero-add (word_of js (k / 64)), other_word j k (λ f. eqb-false (j / 64) (k / 64) e (sym f))) (has k)

module _ (m : ℕ) where
  word_has : (ks : List ℕ) → apart m ks ≡ true → (k : ℕ) → bit (word_of ks (k / 64)) (k % 64) ≡ among ks k
  unfolding word_of some_of among apart
  word_has [] h k = no_bit (k % 64)
  word_has (j ∷ js) h k =
      let (o, p) = each (ltb (j / 64) m && not (among js j)) _ h in
      one_key js j k (word_has js p) (not-true (among js j) (each (ltb (j / 64) m) _ o).1) (eqb (j / 64) (k / 64)) refl

  small : (ks : List ℕ) → apart m ks ≡ true → (k : ℕ) → m ≤ k / 64 → among ks k ≡ false
  unfolding some_of among apart
  small [] h k l = refl
  small (j ∷ js) h k l =
      let (o, p) = each (ltb (j / 64) m && not (among js j)) _ h in
      let i = ltb-true (j / 64) m (each (ltb (j / 64) m) _ o).0 in
      rw (other_word j k (λ e. omega arith)) (small js p k l)

from : (ks : List ℕ) (i n d : ℕ) → d < n → get_or (words_from ks i n) d 0 ≡ word_of ks (i + d)
unfolding words_from
from ks i zero d h = absurd (omega arith)
from ks i (suc n) zero h = ap (word_of ks) (sym (add-zero i))
from ks i (suc n) (suc d) h = from ks (i + 1) n d (omega arith) ∙ ap (word_of ks) (omega arith)

either : (js ks : List ℕ) (k : ℕ) → among (js ++ ks) k ≡ (among js k || among ks k)
unfolding some_of among
either [] ks k = refl
either (j ∷ js) ks k = rw (either js ks k) (sym (or_assoc (eqb k j) (among js k) (among ks k)))

names : (row : Row) (k : ℕ) → among (keys_in row) k ≡ named row k
unfolding keys_in some_of among named on_line
names [] k = refl
names (l ∷ ls) k = rw (either (members l) (keys_in ls) k, names ls k)

pub row_names : (row : Row) {set : List ℕ} → set ≡ words_of row (length set) → apart (length set) (keys_in row) ≡ true → Names row set
unfolding words_of holds
row_names row {set} w h k = by (ltb (k / 64) (length set)) refl ∙ names row k
  where
    by : (t : Bool) → ltb (k / 64) (length set) ≡ t → bit (get_or set (k / 64) 0) (k % 64) ≡ among (keys_in row) k
    by true e =
        let l = ltb-true (k / 64) (length set) e in
        ap (λ s. bit (get_or s (k / 64) 0) (k % 64)) w
        ∙ ap (λ w. bit w (k % 64)) (from (keys_in row) 0 (length set) (k / 64) l ∙ ap (word_of (keys_in row)) (zero-add (k / 64)))
        ∙ word_has (length set) (keys_in row) h k
    by false e =
        let l = ltb-false (k / 64) (length set) e in
        beyond set k l ∙ sym (small (length set) (keys_in row) h k l)
