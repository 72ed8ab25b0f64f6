-- The names by one test that antt computes: for each of the 256 codes, what the code computes is the part that Table 6
-- gives it, and what stands there is its name.
use Prim.Native.Nat.{ℕ, zero, suc, ◌+◌, ◌-◌, ◌<◌, ◌≤◌}
use mathlib.Core.Path.{◌≡◌, refl, ap}
use mathlib.Core.Bool.{Bool, true}
use mathlib.Core.List.{List, [], ◌∷◌}
use mathlib.Core.Logic.{⊎_elim}
use lib.Dec.{ltb, leb}
use lib.ListN.{length, take, drop, get_or}
use native.Mathlib.Nat.{eq-or-lt_of_le, le_of_suc-le-suc, not-suc-le-zero}
use native.Mathlib.Omega.{arith}
use borrow.Author.Tests.{leb-true, lt-ltb, le-ltb}
use Rattle.element.specs.Octets.{Octets, if}
use Rattle.errors.specs.declared.Part as P
use Rattle.errors.specs.Table6.{table6, octets_of, name_in, name_of, names_in, names, part_from, part_of, NamePart}

-- a function at the numbers below `n`, and two of them that are alike there
below : {A : Type 0} → (ℕ → A) → ℕ → List A
below f zero = []
below f (suc n) = f n ∷ below f n

alike : {A : Type 0} (f g : ℕ → A) (n : ℕ) → below f n ≡ below g n → (k : ℕ) → k < n → f k ≡ g k
unfolding below
alike f g zero e k h = absurd (not-suc-le-zero h)
alike f g (suc n) e k h =
    ⊎_elim (λ at_n. rw at_n cc) (λ lt. alike f g n (cc) k lt) (eq-or-lt_of_le (le_of_suc-le-suc h))

unfoldable pub starts : List ℕ
starts = 0 ∷ 15 ∷ 30 ∷ 46 ∷ 70 ∷ 86 ∷ 107 ∷ 123 ∷ 137 ∷ 150 ∷ 176 ∷ 191 ∷ 207 ∷ 223 ∷ 239 ∷ []

-- what the code computes: whether the start is at most the end, so that a size is left, and the part
coded : ℕ → Bool × P.Part
coded code =
    let from = get_or starts (code - 129) 0 in
    let to = get_or starts (code - 129 + 1) 0 in
    let none : Bool × P.Part = (true, record { start = 0; size = 0 }) in
    if (ltb code 129) none (if (ltb 142 code) none (leb from to, record { start = from; size = to - from }))

got : ℕ → Bool × P.Part × Bool × Octets
got code =
    let p = part_of code in
    let fits = leb (p.start + p.size) (length names) in
    ((coded code).0, (coded code).1, fits, take p.size (drop p.start names))

wanted : ℕ → Bool × P.Part × Bool × Octets
wanted code = (true, part_of code, true, name_of code)

test : below got 256 ≡ below wanted 256
unfolding below starts coded got wanted table6 octets_of name_in name_of names_in names part_from part_of
test = refl

module _ (code : ℕ) (octet : code < 256) where
  tested : got code ≡ wanted code
  tested = alike got wanted 256 test code octet

  pub is_name : NamePart code (part_of code).start (part_of code).size
  unfolding got wanted
  is_name = record { within = leb-true _ _ (ap (λ t. t.2) tested); part = ap (λ t. t.3) tested }

  computed : ((coded code).0 ≡ true) × ((coded code).1 ≡ part_of code)
  unfolding got wanted
  computed = (ap (λ t. t.0) tested, ap (λ t. t.1) tested)

  pub low : code < 129 → record { start = 0; size = 0 } ≡ part_of code
  unfolding coded
  low h = simp (lt-ltb code 129) at computed.1

  pub high : 142 < code → record { start = 0; size = 0 } ≡ part_of code
  unfolding coded
  high h = simp (le-ltb code 129 (omega arith), lt-ltb 142 code) at computed.1

  pub lined : 129 ≤ code → code ≤ 142 →
      let from = get_or starts (code - 129) 0 in
      let to = get_or starts (code - 129 + 1) 0 in
      (from ≤ to) × (record { start = from; size = to - from } ≡ part_of code)
  unfolding coded
  lined h k =
      let both = simp (le-ltb code 129, le-ltb 142 code) at computed in
      (leb-true _ _ both.0, both.1)
