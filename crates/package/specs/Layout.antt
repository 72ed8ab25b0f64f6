-- The layout of a package, as the reader decides it from left to right: every fault of it is 22, at the place that the
-- component's own steps give it.
use Rattle.std.specs.Prelude.{ℕ, zero, suc, ◌+◌, List, [], ◌∷◌, length, get_or, leb, eqb}
use Rattle.element.specs.Octets.{Octets, if}
use Rattle.element.specs.Answer.{Answer, accepted, refused, ◌>>=◌, ◌>>◌, check}
use Rattle.component.specs.Layout.{Span, span, size_of, contents, wanted}
use Rattle.package.specs.Types.{package_type, id_size}

abbrev pub layout_fault : {A : Type 0} → Answer A → Answer A
layout_fault (accepted x) = accepted x
layout_fault (refused n d) = refused 22 d

-- ---- up to the components
pub record Opening : Type 0 where
  pub ids : Span
  pub sequence : ℕ  -- the place of the component sequence
  pub first : ℕ  -- and of its contents

-- the component sequence that is wanted at `at`, and has to end where the package ends
unfoldable pub sequence_at : Octets → (ids : Span) → (at : ℕ) → Answer Opening
sequence_at s ids at = do
  q ← layout_fault (wanted s 0xE8 22 at (length s))
  check (eqb q.end (length s)) 22 q.end
  accepted (record { ids = ids; sequence = at; first = q.start })

-- the transaction IDs that are wanted at `at`, and the component sequence behind them
unfoldable pub ids_at : Octets → (kind at : ℕ) → Answer Opening
ids_at s kind at = do
  i ← layout_fault (wanted s 0xC7 22 at (length s))
  check (eqb (size_of i) (id_size kind)) 22 at
  sequence_at s i i.end

unfoldable pub opening : Octets → Answer Opening
opening s = do
  check (package_type (get_or s 0 0)) 22 0
  x ← layout_fault (contents s 0 1 (length s))
  check (eqb x.end (length s)) 22 x.end
  ids_at s (get_or s 0 0) x.start

-- ---- the components, each from its place to its end: the first `most` of those that stand from `at` on
unfoldable pub components_from : (most : ℕ) → Octets → (at : ℕ) → Answer (List Span)
components_from zero s at = accepted []
components_from (suc most) s at =
    if (leb (length s) at) (accepted []) do
      x ← layout_fault (contents s at (at + 1) (length s))
      xs ← components_from most s x.end
      accepted (span at x.end ∷ xs)

-- all of them: there are not more than octets
unfoldable pub all_from : Octets → (at : ℕ) → Answer (List Span)
all_from s at = components_from (length s) s at
