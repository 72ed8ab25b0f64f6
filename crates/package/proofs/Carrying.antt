-- Table 2 by its lines: what a line's operation takes, and what no line names takes the last one.
use Prim.Native.Nat.{ℕ}
use mathlib.Core.Path.{◌≡◌, ◌∙◌}
use mathlib.Core.List.{List, [], ◌∷◌}
use borrow.Author.Tests.{ne_eqb}
use Rattle.package.specs.Carriage.{lines, others, line_of, column, carrier}

abbrev NoneOf : ℕ → List ℕ → Type 0
NoneOf n [] = Unit
NoneOf n (k ∷ ks) = NoneOf n ks × (n ≡ k → ⊥)

module _ (kind : ℕ) {operation r : ℕ} where
  pub found : {k : ℕ} → operation ≡ k → r ≡ column kind (line_of k lines) → r ≡ carrier kind operation
  unfolding carrier
  found e f = f ∙ rw e

  pub no_line : NoneOf operation (78 ∷ 74 ∷ 73 ∷ 71 ∷ 69 ∷ 67 ∷ 66 ∷ 65 ∷ 58 ∷ 50 ∷ 36 ∷ 3 ∷ 2 ∷ []) → r ≡ column kind others → r ≡ carrier kind operation
  unfolding line_of lines carrier
  no_line (((((((((((((_, a), b), c), d), e), f), g), h), i), j), k), l), m) q = q ∙ simp ne_eqb
