-- The four formats: what holds of each holds of a type's; and the tests of a type and of its ID octets say what the words
-- say.
use Prim.Native.Nat.{ℕ, ◌<◌, ◌≤◌}
use mathlib.Core.Path.{◌≡◌, refl}
use mathlib.Core.Bool.{Bool, true, false, ◌&&◌, and-eq-true_iff}
use lib.Dec.{leb, eqb}
use borrow.Author.Tests.{le-leb, leb-true, ne_eqb}
use native.Mathlib.Decide.{dec_lt}
use native.Mathlib.Omega.{arith}
use Rattle.element.specs.Octets.{if}
use Rattle.component.specs.Types.{Format, INVOKE, RESULT, ERROR, REJECT, format_of, coding_of, code_size, Typed, Allowed, typed, id_fits}

pub of_each : (P : Format → Type 0) → P INVOKE → P RESULT → P ERROR → P REJECT → (kind : ℕ) → P (format_of kind)
unfolding format_of
of_each P invoke result error reject kind = go (eqb kind 0xE9) (eqb kind 0xEB) (eqb kind 0xEC)
  where
    go : (i e r : Bool) → P (if i INVOKE (if e ERROR (if r REJECT RESULT)))
    go true e r = invoke
    go false true r = error
    go false false true = reject
    go false false false = result

pub result : (kind : ℕ) → (kind ≡ 0xE9 → ⊥) → (kind ≡ 0xEB → ⊥) → (kind ≡ 0xEC → ⊥) → format_of kind ≡ RESULT
unfolding format_of
result kind h k l = simp (ne_eqb kind 0xE9, ne_eqb kind 0xEB, ne_eqb kind 0xEC)

-- what is no type has the format of a RESULT, which asks nothing behind the ID
pub untyped : (kind : ℕ) → typed kind ≡ false → format_of kind ≡ RESULT
unfolding typed
untyped kind e = result kind (λ f. apart f refl) (λ f. apart f refl) (λ f. apart f refl)
  where
    apart : {octet : ℕ} → kind ≡ octet → (leb 0xE9 octet && leb octet 0xEC) ≡ true → ⊥
    apart f g = let z : ◌≡◌ {A = ℕ} 0 1 = cc in absurd (omega arith)

-- the same of the types' octets
pub of_typed : (P : ℕ → Type 0) → P 0xE9 → P 0xEA → P 0xEB → P 0xEC → (kind : ℕ) → Typed kind → P kind
of_typed P invoke result error reject kind t = go (dec_lt kind 0xEA) (dec_lt kind 0xEB) (dec_lt kind 0xEC)
  where
    go : Dec (kind < 0xEA) → Dec (kind < 0xEB) → Dec (kind < 0xEC) → P kind
    go (yes a) _ _ = let e : kind ≡ 0xE9 = omega arith in rw e invoke
    go (no a) (yes b) _ = let e : kind ≡ 0xEA = omega arith in rw e result
    go (no a) (no b) (yes d) = let e : kind ≡ 0xEB = omega arith in rw e error
    go (no a) (no b) (no d) = let e : kind ≡ 0xEC = omega arith in rw e reject

-- ---- at most two octets
pub two_octets : (kind : ℕ) → code_size (coding_of kind) ≤ 2
two_octets = of_each (λ f. code_size f.coding ≤ 2) (omega arith) (omega arith) (omega arith) (omega arith)

pub most_two : (kind : ℕ) → (format_of kind).most ≤ 2
most_two = of_each (λ f. f.most ≤ 2) (omega arith) (omega arith) (omega arith) (omega arith)

pub two_at_most : {kind count : ℕ} → Allowed kind count → count ≤ 2
two_at_most {kind} h = omega (arith, most_two kind)

-- ---- a number between two others
pub within : (a b c : ℕ) → a ≤ b → b ≤ c → (leb a b && leb b c) ≡ true
within a b c h k = rw (le-leb a b h, le-leb b c k)

between : (a b c : ℕ) → (leb a b && leb b c) ≡ true → (a ≤ b) × (b ≤ c)
between a b c e = let (h, k) = (and-eq-true_iff _ _).0 e in (leb-true a b h, leb-true b c k)

pub not_within : (a b c : ℕ) → ((a ≤ b) × (b ≤ c) → ⊥) → (leb a b && leb b c) ≡ false
not_within a b c n = go (leb a b && leb b c) refl
  where
    go : (t : Bool) → (leb a b && leb b c) ≡ t → t ≡ false
    go true e = absurd (n (between a b c e))
    go false e = refl

-- ---- the type
module _ {kind : ℕ} where
  pub known : Typed kind → typed kind ≡ true
  unfolding typed
  known (h, k) = within 0xE9 kind 0xEC h k

  pub unknown : (Typed kind → ⊥) → typed kind ≡ false
  unfolding typed
  unknown n = not_within 0xE9 kind 0xEC n

pub not_typed : {kind : ℕ} → typed kind ≡ false → Typed kind → ⊥
not_typed e t =
    let f = known t in
    let z : ◌≡◌ {A = ℕ} 0 1 = cc in
    absurd (omega arith)

pub is_known : (kind : ℕ) → typed kind ≡ true → Typed kind
unfolding typed
is_known kind e = between 0xE9 kind 0xEC e

-- ---- how many ID octets fit
module _ {kind size : ℕ} where
  pub fits : Allowed kind size → id_fits kind size ≡ true
  unfolding id_fits
  fits (_, h, k) = within (format_of kind).fewest size (format_of kind).most h k

  pub misfits : Typed kind → (Allowed kind size → ⊥) → id_fits kind size ≡ false
  unfolding id_fits
  misfits t n = not_within (format_of kind).fewest size (format_of kind).most λ (h, k). n (t, h, k)

module _ (kind size : ℕ) where
  pub fitting : id_fits kind size ≡ true → ((format_of kind).fewest ≤ size) × (size ≤ (format_of kind).most)
  unfolding id_fits
  fitting e = between (format_of kind).fewest size (format_of kind).most e

  pub allowed : typed kind ≡ true → id_fits kind size ≡ true → Allowed kind size
  allowed e f = let (h, k) = fitting f in (is_known kind e, h, k)
