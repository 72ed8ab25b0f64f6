-- The searches for a first fault, one behind the other, against the judgement; and the rows of the code against those of the paper.
-- Assumes nothing.
use Prim.Native.Nat.{ℕ}
use mathlib.Core.Path.{◌≡◌, refl, ◌∙◌}
use mathlib.Core.List.{List, [], ◌∷◌}
use borrow.Author.Tests.{ne_eqb}
use Rattle.element.specs.Answer.{Answer, accepted, refused, ◌>>◌}
use Rattle.operation.specs.Row.{Row, Item, named}
use Rattle.operation.specs.Judge.{once, sized, present, single, judge, count_named}
use Rattle.operation.specs.Finding.{rowed, row_of, find}
use Rattle.operation.specs.Rows.{operations}
use Rattle.operation.specs.inner.Coded.{judgement, verdict, NoneOf}
use Rattle.operation.specs.inner.Firsts.{Clear}
use Rattle.operation.specs.declared.engine.Notes as N

-- ---- the searches

module _ (row : Row) (xs : List Item) where
  -- 12, or else 26
  pub faulty : {stop : ℕ} → (once row [] xs ≡ accepted tt → sized row xs ≡ refused 26 stop) → {r : Answer ℕ} →
      r ≡ (once row [] xs >> refused 26 stop) → r ≡ judgement row xs
  unfolding judgement judge
  faulty {stop} h {r} e = e ∙ go (once row [] xs) refl
    where
      go : (a : Answer Unit) → once row [] xs ≡ a →
          ◌≡◌ {A = Answer ℕ} (a >> refused 26 stop) ((a >> sized row xs >> present row xs >> single row xs) >> accepted (count_named row xs))
      go (accepted u) q = rw (h q)
      go (refused n d) q = refl

  module _ (notes : N.Notes) (c : Clear row notes xs) where
    pub missing : {d : ℕ} → refused 13 d ≡ present row xs → refused 13 d ≡ judgement row xs
    unfolding judgement judge
    missing p = rw (c.again, c.right, ← p)

    module _ (p : accepted tt ≡ present row xs) where
      pub both : {d : ℕ} → refused 14 d ≡ single row xs → refused 14 d ≡ judgement row xs
      unfolding judgement judge
      both s = rw (c.again, c.right, ← p, ← s)

      pub fits : accepted tt ≡ single row xs → accepted notes.named ≡ judgement row xs
      unfolding judgement judge
      fits s = rw (c.again, c.right, ← p, ← s, c.counted)

-- ---- the rows

-- a row of no line asks for nothing and names nothing
nothing_again : (seen xs : List Item) → once [] seen xs ≡ accepted tt
unfolding once named
nothing_again seen [] = refl
nothing_again seen (x ∷ xs) = nothing_again (x ∷ seen) xs

nothing_sized : (xs : List Item) → sized [] xs ≡ accepted tt
unfolding sized named
nothing_sized [] = refl
nothing_sized (x ∷ xs) = nothing_sized xs

none_named : (xs : List Item) → count_named [] xs ≡ 0
unfolding count_named named
none_named [] = refl
none_named (x ∷ xs) = none_named xs

module _ (xs : List Item) where
  -- at an operation whose row is that of the code
  pub found : (kind : ℕ) {specifier k : ℕ} {row : Row} {r : Answer ℕ} → specifier ≡ k → row_of kind k 0 ≡ accepted row →
      r ≡ judgement row xs → r ≡ verdict kind specifier xs
  unfolding verdict
  found kind s e h = rw (s, e) h

  -- at an operation that has no row
  none : (kind specifier : ℕ) → row_of kind specifier 0 ≡ refused 11 0 → refused 11 0 ≡ verdict kind specifier xs
  unfolding verdict
  none kind specifier e = rw e

  pub no_invoke : {specifier : ℕ} → NoneOf specifier (37 ∷ 15 ∷ 13 ∷ 4 ∷ []) → NoneOf specifier (101 ∷ 32 ∷ []) → refused 11 0 ≡ verdict 0xE9 specifier xs
  unfolding row_of rowed find operations
  no_invoke ((((_, a), b), c), d) ((_, e), f) = none 0xE9 _ (simp ne_eqb)

  pub no_result : {specifier : ℕ} → NoneOf specifier (101 ∷ 64 ∷ 26 ∷ 14 ∷ 13 ∷ 4 ∷ []) → refused 11 0 ≡ verdict 0xEA specifier xs
  unfolding row_of rowed find operations
  no_result ((((((_, a), b), c), d), e), f) = none 0xEA _ (simp ne_eqb)

  -- at a type that has no rows
  pub no_kind : {kind : ℕ} (specifier : ℕ) → NoneOf kind (0xEA ∷ 0xE9 ∷ []) → accepted 0 ≡ verdict kind specifier xs
  unfolding verdict judgement judge present single row_of rowed
  no_kind {kind} specifier ((_, i), r) = rw (ne_eqb kind 0xE9 i, ne_eqb kind 0xEA r, nothing_again [] xs, nothing_sized xs, none_named xs)
