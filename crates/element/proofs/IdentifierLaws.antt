-- The laws of the identifier: what is written is read back, what is read was written, and how long an identifier is.
use Prim.Native.Nat.{ℕ, suc, ◌+◌, ◌*◌, ◌-◌, ◌/◌, ◌%◌, ◌<◌, ◌≤◌}
use mathlib.Core.Path.{◌≡◌, sym, ap, ◌∙◌}
use Rattle.std.proofs.lemmas.Option.{same_Some}
use mathlib.Core.List.{[], ◌∷◌, ◌++◌}
use lib.ListN.{length, take, get_or}
use lib.Seq.{length-take-le}
use lib.Dec.{leb-suc-zero}
use borrow.Author.Tests.{lt-ltb, le-ltb, lt-leb, ne_eqb}
use native.Mathlib.Omega.{arith}
use Rattle.std.specs.Prelude.{Option, None}
use Rattle.element.specs.declared.Identifier as I
use Rattle.element.specs.Octets.{Octets, AreOctets}
use Rattle.element.specs.Identifier.{IdentifierField, only, identifier, identifier_size}
use Rattle.element.specs.Decoded.{an_identifier, identifier_at, numbered}
use Rattle.element.proofs.Reading.{less, most, same, first, first_two, first_three, Small, small as each-small}

-- an identifier by its size, and back
by_size : (P : Octets → Type 0) (number form : ℕ) →
    (number < 31 → P ((0x80 + 32 * form + number) ∷ [])) → (31 ≤ number → number < 128 → P ((0x9F + 32 * form) ∷ number ∷ [])) →
    (128 ≤ number → P ((0x9F + 32 * form) ∷ (0x80 + number / 128) ∷ (number % 128) ∷ [])) → P (identifier number form)
unfolding identifier
by_size P number form p q r = less P p λ h. less P (q h) r

one : {a : ℕ} → a / 64 ≡ 2 → a % 32 < 31 → a ∷ [] ≡ identifier (a % 32) (a / 32 % 2)
unfolding identifier
one {a} e h = let f : 0x80 + 32 * (a / 32 % 2) + a % 32 ≡ a = omega arith in simp (lt-ltb (a % 32) 31, f)

head : (a : ℕ) → a / 64 ≡ 2 → 31 ≤ a % 32 → 0x9F + 32 * (a / 32 % 2) ≡ a
head a e h = omega arith

two : {a b : ℕ} → a / 64 ≡ 2 → 31 ≤ a % 32 → 31 ≤ b → b < 128 → a ∷ b ∷ [] ≡ identifier b (a / 32 % 2)
unfolding identifier
two {a} {b} e h i j = simp (head a, le-ltb b 31, lt-ltb b 128)

three : {a b c : ℕ} → a / 64 ≡ 2 → 31 ≤ a % 32 → 128 ≤ b → (b ≡ 128 → ⊥) → c < 128 →
    a ∷ b ∷ c ∷ [] ≡ identifier ((b - 128) * 128 + c) (a / 32 % 2)
unfolding identifier
three {a} {b} {c} e h i j k =
    let n = (b - 128) * 128 + c in
    let f : 0x80 + n / 128 ≡ b = omega arith in
    let g : n % 128 ≡ c = omega arith in
    simp (head a, f, g, le-ltb n 31 (omega arith), le-ltb n 128 (omega arith))

pub size : (number form : ℕ) → length (identifier number form) ≡ identifier_size number
unfolding identifier_size
size number form =
    by_size (λ f. length f ≡ identifier_size number) number form
    (λ a. simp (lt-ltb number 31))
    (λ a b. simp (le-ltb number 31, lt-ltb number 128))
    (λ a. simp (le-ltb number 31 (omega arith), le-ltb number 128))

brief : {number form : ℕ} → form ≤ 1 → number < 31 → (s : Octets) → identifier_at ((0x80 + 32 * form + number) ∷ s) ≡ an_identifier number form 1
unfolding identifier_at
brief {number} {form} h k s =
    let a = 0x80 + 32 * form + number in
    let e : a / 64 ≡ 2 = omega arith in
    let f : a / 32 % 2 ≡ form = omega arith in
    let g : a % 32 ≡ number = omega arith in
    simp (leb-suc-zero, e, f, g, lt-ltb number 31)

long : {form : ℕ} → form ≤ 1 → (s : Octets) → identifier_at ((0x9F + 32 * form) ∷ s) ≡ numbered form ((0x9F + 32 * form) ∷ s)
unfolding identifier_at
long {form} h s =
    let a = 0x9F + 32 * form in
    let e : a / 64 ≡ 2 = omega arith in
    let f : a / 32 % 2 ≡ form = omega arith in
    let g : a % 32 ≡ 31 = omega arith in
    simp (leb-suc-zero, e, f, g)

pub small : (number : ℕ) {k : ℕ} → k ≡ identifier_size number → k ≤ 3
unfolding identifier_size
small number e =
    rw e (less (λ k. k ≤ 3) {x = number} {y = 31} {a = 1} (λ _. omega arith) λ _.
    less (λ k. k ≤ 3) {x = number} {y = 128} {a = 2} {b = 3} (λ _. omega arith) (λ _. omega arith))

pub complete : {number form : ℕ} {field : Octets} → IdentifierField number form field → (rest : Octets) →
    identifier_at (field ++ rest) ≡ an_identifier number form (length field)
unfolding numbered
complete (only number form h k) rest =
    let b = 0x80 + number / 128 in
    let c = number % 128 in
    let l = suc (suc (length rest)) in
    let e : (b - 0x80) * 128 + c ≡ number = omega arith in
    by_size (λ f. identifier_at (f ++ rest) ≡ an_identifier number form (length f)) number form
    (λ i. brief k i rest)
    (λ i j. long k (number ∷ rest) ∙ simp (lt-leb l 1 (omega arith), lt-ltb number 128, le-ltb number 31))
    (λ i. long k (b ∷ c ∷ rest) ∙ simp (
      lt-leb (suc l) 1 (omega arith),
      le-ltb b 128 (omega arith),
      ne_eqb b 128 (omega arith),
      lt-leb (suc l) 2 (omega arith),
      lt-ltb c 128 (omega arith),
      e,
    ))

pub read_back : (number form : ℕ) → number ≤ 16383 → form ≤ 1 → (rest : Octets) →
    identifier_at (identifier number form ++ rest) ≡ an_identifier number form (length (identifier number form))
read_back number form h k rest = complete (only number form h k) rest

pub same_identifier : {a b c d j k : ℕ} → an_identifier a c j ≡ an_identifier b d k → (a ≡ b) × (c ≡ d) × (j ≡ k)
same_identifier e =
    let alike = same_Some _ _ e in
    (ap (λ (i : I.Identifier). i.number) alike, ap (λ (i : I.Identifier). i.form) alike, ap (λ (i : I.Identifier). i.size) alike)

-- what there is to read: in three octets too no number is over 16,383
data Read (s : Octets) : Option I.Identifier → Type 0 where
  ill_formed : Read s None
  found : {number form : ℕ} (k : ℕ) → take k s ≡ identifier number form → number ≤ 16383 → form ≤ 1 → k ≤ length s → Read s (an_identifier number form k)

module _ (s : Octets) (o : AreOctets s) where
  read_numbered : get_or s 0 0 / 64 ≡ 2 → 31 ≤ get_or s 0 0 % 32 → Read s (numbered (get_or s 0 0 / 32 % 2) s)
  unfolding numbered
  read_numbered e l =
      let R = Read s in
      most R (λ _. ill_formed) λ i.
      less R (λ b. less R (λ _. ill_formed) λ m. found 2 (first_two s i ∙ two e l m b) (omega arith) (omega arith) i) λ b.
      same R (λ _. ill_formed) λ f.
      most R (λ _. ill_formed) λ j.
      less R (λ c. found 3 (first_three s j ∙ three e l b f c) (omega (arith, o 1)) (omega arith) j) (λ _. ill_formed)

  read : Read s (identifier_at s)
  unfolding identifier_at
  read =
      let R = Read s in
      most R (λ _. ill_formed) λ h.
      same R (λ e. less R (λ l. found 1 (first s h ∙ one e l) (omega arith) (omega arith) h) (read_numbered e)) (λ _. ill_formed)

taken : {s : Octets} {a : Option I.Identifier} {number form size : ℕ} → Read s a → a ≡ an_identifier number form size →
    IdentifierField number form (take size s) × (size ≤ length s)
taken ill_formed e = let z : ◌≡◌ {A = ℕ} 0 1 = cc in absurd (omega arith)
taken {number = number} {form = form} {size = i} (found {number = m} {form = l} k t b c h) e =
    let (p, q, r) = same_identifier (sym e) in
    rw (p, q, r, t) (only m l b c, h)

pub sound : (s : Octets) → AreOctets s → {number form size : ℕ} → identifier_at s ≡ an_identifier number form size →
    IdentifierField number form (take size s) × (size ≤ length s)
sound s o e = taken (read s o) e

pub behind : (s t : Octets) → AreOctets s → {number form size : ℕ} → identifier_at s ≡ an_identifier number form size →
    identifier_at (take size s ++ t) ≡ an_identifier number form size
behind s t o {size = size} e = let (r, h) = sound s o e in rw (length-take-le size s h) at (complete r t)

pub sizes : {number form : ℕ} {field : Octets} → IdentifierField number form field → (1 ≤ length field) × (length field ≤ 3)
sizes (only number form h k) =
    by_size (λ f. (1 ≤ length f) × (length f ≤ 3)) number form (λ _. omega arith) (λ _ _. omega arith) (λ _. omega arith)

pub bounded : {number form : ℕ} {field : Octets} → IdentifierField number form field → (number ≤ 16383) × (form ≤ 1)
bounded (only number form h k) = (h, k)

-- no run of three octets or more begins an identifier
pub no_longer_run : {number form a b c : ℕ} {field s : Octets} (rest : Octets) → IdentifierField number form field → a % 32 ≡ 31 → 128 ≤ b → 128 ≤ c →
    a ∷ b ∷ c ∷ s ≡ field ++ rest → ⊥
no_longer_run {a = a} {b} {c} {s = s} rest (only number form h k) l m n =
    by_size (λ f. a ∷ b ∷ c ∷ s ≡ f ++ rest → ⊥) number form
    (λ i e. omega (arith, ap (λ t. get_or t 0 0) e))
    (λ _ i e. omega (arith, ap (λ t. get_or t 1 0) e))
    (λ _ e. omega (arith, ap (λ t. get_or t 2 0) e))

-- of what is read: 1 to 3 octets, all of them there, a number up to 16,383 and a form
pub inside : (s : Octets) → AreOctets s → {number form size : ℕ} → identifier_at s ≡ an_identifier number form size →
    (1 ≤ size) × (size ≤ 3) × (size ≤ length s) × (number ≤ 16383) × (form ≤ 1)
inside s o {size = size} e =
    let (f, h) = sound s o e in
    let l = rw (length-take-le size s h) at (sizes f) in
    (l.0, l.1, h, (bounded f).0, (bounded f).1)

pub octets : {number form : ℕ} {field : Octets} → IdentifierField number form field → AreOctets field
octets (only number form h k) =
    each-small (identifier number form) (by_size Small number form (λ a. omega arith) (λ _ a. omega arith) (λ _. omega arith))
