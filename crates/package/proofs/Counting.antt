-- The walk over the components, counted: what is counted so far, and what is left to be counted.
use Prim.Native.Nat.{ℕ, zero, suc, ◌+◌, ◌<◌, ◌≤◌}
use mathlib.Core.Path.{◌≡◌, refl, ap, ◌∙◌}
use mathlib.Core.List.{List, ◌∷◌}
use lib.ListN.{length}
use borrow.Author.Tests.{le-leb, lt-leb}
use native.Mathlib.Omega.{arith}
use Rattle.element.specs.Octets.{Octets}
use Rattle.element.specs.Answer.{Answer, accepted, refused, ◌>>=◌}
use Rattle.component.specs.Layout.{Span, span, contents}
use Rattle.package.specs.Layout.{layout_fault, components_from, all_from}
use Rattle.package.specs.inner.Opened.{counted}

abbrev counting : ℕ → Answer (List Span) → Answer ℕ
counting n a = a >>= λ xs. accepted (n + length xs)

module _ (s : Octets) (first : ℕ) where
  -- `count` components stand before `at`, and `room` of those behind are enough
  pub record Counted (at count : ℕ) : Type 0 where
    pub room : ℕ
    pub enough : length s ≤ room + at
    pub is : counted s first ≡ counting count (components_from room s at)

  pub begins : Counted first 0
  unfolding counted all_from
  begins = record { room = length s; enough = omega arith; is = go (components_from (length s) s first) }
    where
      go : (a : Answer (List Span)) → (a >>= λ xs. accepted (length xs)) ≡ counting 0 a
      go (accepted xs) = ap (λ n. accepted n) (omega arith)
      go (refused n d) = refl

  module _ {at count : ℕ} (h : Counted at count) where
    pub ends : length s ≤ at → counted s first ≡ accepted count
    unfolding components_from
    ends k = h.is ∙ go h.room
      where
        go : (room : ℕ) → counting count (components_from room s at) ≡ accepted count
        go zero = ap (λ n. accepted n) (omega arith)
        go (suc room) = rw (le-leb _ _ k) (ap (λ n. accepted n) (omega arith))

    module _ (k : at < length s) where
      step : (room : ℕ) → length s ≤ room + at → {a : Answer Span} → layout_fault (contents s at (at + 1) (length s)) ≡ a →
          (r : ℕ) × (suc r ≡ room) × (components_from room s at ≡ (a >>= λ x. components_from r s x.end >>= λ xs. accepted (span at x.end ∷ xs)))
      unfolding components_from
      step zero e f = absurd (omega arith)
      step (suc r) e f = (r, refl, rw (lt-leb _ _ k, f))

      pub goes_on : {x : Span} → at < x.end → layout_fault (contents s at (at + 1) (length s)) ≡ accepted x → Counted x.end (count + 1)
      goes_on {x} l e =
          let (r, p, f) = step h.room h.enough e in
          record { room = r; enough = omega (arith, p, h.enough); is = h.is ∙ ap (counting count) f ∙ go (components_from r s x.end) }
        where
          go : (a : Answer (List Span)) → counting count (a >>= λ xs. accepted (span at x.end ∷ xs)) ≡ counting (count + 1) a
          go (accepted xs) = ap (λ n. accepted n) (omega arith)
          go (refused n d) = refl

      pub stops : {n d : ℕ} → layout_fault (contents s at (at + 1) (length s)) ≡ refused n d → counted s first ≡ refused n d
      stops e = let (r, p, f) = step h.room h.enough e in h.is ∙ ap (counting count) f
