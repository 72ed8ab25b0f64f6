-- The laws of the length field: what says a length is read back, what is read says it, and which field is the shortest.
use Prim.Native.Nat.{ℕ, suc, ◌+◌, ◌*◌, ◌/◌, ◌%◌, ◌<◌, ◌≤◌}
use mathlib.Core.Path.{◌≡◌, refl, sym, ap, ◌∙◌}
use Rattle.std.proofs.lemmas.Option.{same_Some}
use mathlib.Core.List.{[], ◌∷◌, ◌++◌}
use mathlib.Core.Logic.{◌⊎◌, inl, inr}
use lib.ListN.{length, take, get_or}
use lib.Seq.{length-take-le}
use lib.Dec.{leb-suc-zero}
use borrow.Author.Tests.{lt-ltb, le-ltb, lt-leb}
use native.Mathlib.Omega.{arith}
use Rattle.std.specs.Prelude.{Option, None}
use Rattle.element.specs.declared.Length as L
use Rattle.element.specs.Octets.{Octets, AreOctets}
use Rattle.element.specs.Length.{LengthField, one, two, three, shortest, field_size}
use Rattle.element.specs.Decoded.{a_length, length_at}
use Rattle.element.proofs.Reading.{less, most, same, first, first_two, first_three, small as each-small}

-- the shortest field by its size
by_size : (P : Octets → Type 0) (n : ℕ) →
    (n < 128 → P (n ∷ [])) → (128 ≤ n → n < 256 → P (0x81 ∷ n ∷ [])) → (256 ≤ n → P (0x82 ∷ (n / 256) ∷ (n % 256) ∷ [])) → P (shortest n)
unfolding shortest
by_size P n p q r = less P p λ h. less P (q h) r

pub size : (n : ℕ) → n < 65536 → length (shortest n) ≡ field_size n
unfolding field_size
size n h =
    by_size (λ f. length f ≡ field_size n) n
    (λ a. simp (lt-ltb n 128))
    (λ a b. simp (le-ltb n 128, lt-ltb n 256))
    (λ a. simp (le-ltb n 128 (omega arith), le-ltb n 256, lt-ltb n 65536))

pub small : (n : ℕ) {k : ℕ} → k ≡ field_size n → k ≤ 4
unfolding field_size
small n e =
    rw e (less (λ k. k ≤ 4) {x = n} {y = 128} {a = 1} (λ _. omega arith) λ _.
    less (λ k. k ≤ 4) {x = n} {y = 256} {a = 2} (λ _. omega arith) λ _.
    less (λ k. k ≤ 4) {x = n} {y = 65536} {a = 3} {b = 4} (λ _. omega arith) (λ _. omega arith))

-- ---- what is taken for a length: the shortest field is among them, none is shorter, and none but it is as short
pub short : (n : ℕ) → n < 65536 → LengthField n (shortest n)
short n h =
    let e : n / 256 * 256 + n % 256 ≡ n = omega arith in
    by_size (LengthField n) n one (λ _. two) λ a. rw e at (three {high = n / 256} {low = n % 256} (omega arith) (omega arith))

pub least : {n m : ℕ} {field : Octets} → LengthField n field → m ≤ n → length (shortest m) ≤ length field
least {m = m} (one h) l = by_size (λ f. length f ≤ 1) m (λ a. omega arith) (λ a b. omega arith) (λ a. omega arith)
least {m = m} (two h) l = by_size (λ f. length f ≤ 2) m (λ a. omega arith) (λ a b. omega arith) (λ a. omega arith)
least {m = m} (three h k) l = by_size (λ f. length f ≤ 3) m (λ a. omega arith) (λ a b. omega arith) (λ a. omega arith)

pub exact : {n : ℕ} {field : Octets} → LengthField n field → length field ≤ length (shortest n) → field ≡ shortest n
exact (one {n} h) = by_size (λ f. 1 ≤ length f → n ∷ [] ≡ f) n (λ _ _. refl) (λ a _ _. absurd (omega arith)) (λ a _. absurd (omega arith))
exact (two {n} h) = by_size (λ f. 2 ≤ length f → 0x81 ∷ n ∷ [] ≡ f) n (λ _ l. absurd (omega arith)) (λ _ _ _. refl) (λ a _. absurd (omega arith))
exact (three {high} {low} h k) =
    let n = high * 256 + low in
    let e : n / 256 ≡ high = omega arith in
    let f : n % 256 ≡ low = omega arith in
    by_size (λ f. 3 ≤ length f → 0x82 ∷ high ∷ low ∷ [] ≡ f) n (λ _ l. absurd (omega arith)) (λ _ _ l. absurd (omega arith)) (λ _ _. rw (e, f))

-- ---- read back, and what is read
pub complete : {n : ℕ} {field : Octets} → LengthField n field → (rest : Octets) → length_at (field ++ rest) ≡ a_length n (length field)
unfolding length_at
complete (one {n} h) rest = simp (leb-suc-zero, lt-ltb n 128)
complete (two h) rest = simp (leb-suc-zero, lt-leb (suc (suc (length rest))) 1 (omega arith))
complete (three h k) rest = simp (leb-suc-zero, lt-leb (suc (suc (suc (length rest)))) 2 (omega arith))

pub read_back : (n : ℕ) → n < 65536 → (rest : Octets) → length_at (shortest n ++ rest) ≡ a_length n (length (shortest n))
read_back n h rest = complete (short n h) rest

pub same_length : {n m j k : ℕ} → a_length n j ≡ a_length m k → (n ≡ m) × (j ≡ k)
same_length e =
    let alike = same_Some _ _ e in
    (ap (λ (l : L.Length). l.value) alike, ap (λ (l : L.Length). l.size) alike)

-- a field says one length
pub unique : {n m : ℕ} {field : Octets} → LengthField n field → LengthField m field → n ≡ m
unique x y =
    (same_length (sym (complete x []) ∙ complete y [])).0

-- what there is to read
data Read (s : Octets) : Option L.Length → Type 0 where
  wrong : Read s None
  found : {n : ℕ} (k : ℕ) → LengthField n (take k s) → k ≤ length s → Read s (a_length n k)

after_81 : {a n : ℕ} → a ≡ 0x81 → n < 256 → LengthField n (a ∷ n ∷ [])
after_81 e h = rw e (two h)

after_82 : {a high low : ℕ} → a ≡ 0x82 → high < 256 → low < 256 → LengthField (high * 256 + low) (a ∷ high ∷ low ∷ [])
after_82 e h k = rw e (three h k)

read : (s : Octets) → AreOctets s → Read s (length_at s)
unfolding length_at
read s o =
    let R = Read s in
    most R (λ _. wrong) λ h.
    less R (λ a. found {n = get_or s 0 0} 1 (rw (first s h) (one a)) h) λ _.
    same R (λ e. most R (λ _. wrong) λ k. found {n = get_or s 1 0} 2 (rw (first_two s k) (after_81 e (o 1))) k) λ _.
    same R (λ e. most R (λ _. wrong) λ k. found {n = get_or s 1 0 * 256 + get_or s 2 0} 3 (rw (first_three s k) (after_82 e (o 1) (o 2))) k) (λ _. wrong)

taken : {s : Octets} {a : Option L.Length} {value size : ℕ} → Read s a → a ≡ a_length value size → LengthField value (take size s) × (size ≤ length s)
taken wrong e = let z : ◌≡◌ {A = ℕ} 0 1 = cc in absurd (omega arith)
taken {value = value} {size = i} (found {n} k w h) e =
    let (p, q) = same_length (sym e) in
    rw (p, q) (w, h)

pub sound : (s : Octets) → AreOctets s → {value size : ℕ} → length_at s ≡ a_length value size → LengthField value (take size s) × (size ≤ length s)
sound s o e = taken (read s o) e

pub behind : (s t : Octets) → AreOctets s → {value size : ℕ} → length_at s ≡ a_length value size → length_at (take size s ++ t) ≡ a_length value size
behind s t o {size = size} e = let (r, h) = sound s o e in rw (length-take-le size s h) at (complete r t)

pub sizes : {n : ℕ} {field : Octets} → LengthField n field → (1 ≤ length field) × (length field ≤ 3)
sizes (one h) = omega arith
sizes (two h) = omega arith
sizes (three h k) = omega arith

-- 80 and 83 to FF begin no field
pub begins : {n : ℕ} {field : Octets} → LengthField n field → (rest : Octets) {a : ℕ} {s : Octets} → a ∷ s ≡ field ++ rest → (a < 128) ⊎ (a ≡ 0x81) ⊎ (a ≡ 0x82)
begins (one {n} h) rest {a} e =
    let p : n ≡ a = cc in
    inl (rw p at h)
begins (two h) rest e = inr (inl (cc))
begins (three h k) rest e = inr (inr (cc))

pub bounded : {n : ℕ} {field : Octets} → LengthField n field → n < 65536
bounded (one h) = omega arith
bounded (two h) = omega arith
bounded (three h k) = omega arith

-- of what is read: 1 to 3 octets, all of them there, and a value of 16 bits
pub inside : (s : Octets) → AreOctets s → {value size : ℕ} → length_at s ≡ a_length value size → (1 ≤ size) × (size ≤ 3) × (size ≤ length s) × (value < 65536)
inside s o {size = size} e =
    let (f, h) = sound s o e in
    let l = rw (length-take-le size s h) at (sizes f) in
    (l.0, l.1, h, bounded f)

pub octets : {n : ℕ} {field : Octets} → LengthField n field → AreOctets field
octets (one {n} h) = each-small (n ∷ []) (omega arith)
octets (two {n} h) = each-small (0x81 ∷ n ∷ []) (omega arith)
octets (three {high} {low} h k) = each-small (0x82 ∷ high ∷ low ∷ []) (omega arith)
