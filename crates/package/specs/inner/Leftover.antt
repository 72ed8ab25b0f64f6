-- What is answered of the components that are left of a package.
use Rattle.std.specs.Prelude.{ℕ, Result, ◌+◌, ◌<◌, ◌≡◌, List, map, length, Option, Some, None}
use Rattle.element.specs.Octets.{Octets}
use Rattle.element.specs.Answer.{Answer, accepted, refused, ◌>>=◌, ◌>>◌}
use Rattle.component.specs.Layout.{Span, contents}
use Rattle.element.specs.declared.refusal.Refusal as F
use Rattle.element.specs.Told.{told}
use Rattle.package.specs.Layout.{components_from}
use Rattle.package.specs.Reading.{Placed, read_each, carried_in, tables_with}
use Rattle.package.specs.Told.{inside, places_with, summaries_with}

abbrev pub rest_in : Result (Unit {0}) F.Refusal → Answer Unit
rest_in r = told (λ u. u) r

-- `left` components stand from `at` on, which is not the package's start
pub record Stand (s : Octets) (at left : ℕ) : Type 0 where
  pub some : 0 < at
  pub spans : List Span
  pub walked : components_from left s at ≡ accepted spans
  pub all : length spans ≡ left

-- where the component at `at` ends, if it does
abbrev pub EndsAt : Octets → (at end : ℕ) → Type 0
EndsAt s at end = (x : Span) → contents s at (at + 1) (length s) ≡ accepted x → end ≡ x.end

-- 24 where a component was not carried
unfoldable pub closing : (wrong : Option ℕ) → Answer Unit
closing None = accepted tt
closing (Some at) = refused 24 at

-- the components from `at` on, where `wrong` is the place of the first before them that the package does not carry
unfoldable pub leftover : (packet : ℕ) → Octets → (at left specifiers : ℕ) (wrong : Option ℕ) → Answer (List Placed)
leftover packet s at left specifiers wrong = do
  xs ← components_from left s at
  ys ← read_each s xs specifiers
  closing wrong
  carried_in packet ys specifiers
  accepted ys

unfoldable pub done : {A : Type 0} → Answer A → Answer Unit
done a = a >> accepted tt

unfoldable pub tables_rest : List ℕ → Answer (List Placed) → List ℕ
tables_rest t (accepted ys) = tables_with ys t
tables_rest t (refused n d) = t

unfoldable pub places_rest : List ℕ → Answer (List Placed) → List ℕ
places_rest t (accepted ys) = places_with (map inside ys) t
places_rest t (refused n d) = t

unfoldable pub summaries_rest : List ℕ → Answer (List Placed) → List ℕ
summaries_rest t (accepted ys) = summaries_with (map inside ys) t
summaries_rest t (refused n d) = t
