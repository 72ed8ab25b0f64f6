-- Marks only point: where they move, the judgement is the same and its refusals move along.
use Prim.Native.Nat.{ℕ}
use mathlib.Core.Path.{◌≡◌, refl}
use mathlib.Core.Bool.{Bool, true, false, ◌&&◌, ◌||◌, not}
use mathlib.Core.List.{List, [], ◌∷◌, map}
use lib.Dec.{eqb}
use borrow.Author.Tests.{not-false}
use Rattle.element.specs.Octets.{if}
use Rattle.element.specs.Answer.{Answer, accepted, refused, ◌>>◌, check}
use Rattle.operation.specs.Row.{Row, asks, Item, named, repeats, allows}
use Rattle.operation.specs.Rows.{sizes}
use Rattle.operation.specs.Judge.{occurs, once, sized, met, present, doubled, single, judge, count_named, pointed, remark}
use Rattle.operation.proofs.Lines.{met_same, last}

module _ (f : ℕ → ℕ) where
  -- two answers, the first with its mark moved
  data Moved : Answer Unit → Answer Unit → Type 0 where
    stays : Moved (accepted tt) (accepted tt)
    moves : (n d : ℕ) {e : ℕ} → e ≡ if (eqb n 13) d (f d) → Moved (refused n e) (refused n d)

  also : {a b c d : Answer Unit} → Moved a b → Moved c d → Moved (a >> c) (b >> d)
  also stays v = v
  also (moves n d e) v = moves n d e

  test : (t : Bool) (n d : ℕ) {e : ℕ} → (t ≡ false → e ≡ if (eqb n 13) d (f d)) → Moved (check t n e) (check t n d)
  test true n d h = stays
  test false n d h = moves n d (h refl)

  occurs_marked : (k : ℕ) (xs : List Item) → occurs k (map (remark f) xs) ≡ occurs k xs
  unfolding occurs remark
  occurs_marked k [] = refl
  occurs_marked k (x ∷ xs) = rw (occurs_marked k xs)

  once_marked : (row : Row) (s xs : List Item) → Moved (once row (map (remark f) s) (map (remark f) xs)) (once row s xs)
  unfolding once remark
  once_marked row s [] = stays
  once_marked row s (x ∷ xs) =
      let k = x.is in
      rw (occurs_marked k s) (also (test (not (named row k && (not (repeats k) && occurs k s))) 12 x.mark λ _. refl) (once_marked row (x ∷ s) xs))

  sized_marked : (row : Row) (xs : List Item) → Moved (sized row (map (remark f) xs)) (sized row xs)
  unfolding sized remark
  sized_marked row [] = stays
  sized_marked row (x ∷ xs) = also (test (not (named row x.is) || allows (sizes x.is) x.size) 26 x.mark λ _. refl) (sized_marked row xs)

  lines_marked : (row : Row) (xs : List Item) → Moved (present row (map (remark f) xs)) (present row xs) × Moved (single row (map (remark f) xs)) (single row xs)
  unfolding present single
  lines_marked [] xs = (stays, stays)
  lines_marked (l ∷ ls) xs =
      let (p, s) = lines_marked ls xs in
      let (m, d) = met_same xs (map (remark f) xs) l λ k _. occurs_marked k xs in
      rw (m, d) (also (test (met l xs) 13 (asks l) λ _. refl) p, also (test (not (doubled l xs)) 14 _ λ e. last (λ m n. m ≡ f n) f l xs (not-false _ e) λ _ _ _. refl) s)

  moved : {a b : Answer Unit} → Moved a b → a ≡ pointed f b
  unfolding pointed
  moved stays = refl
  moved (moves n d e) = rw e

  pub marked : (row : Row) (xs : List Item) → judge row (map (remark f) xs) ≡ pointed f (judge row xs)
  unfolding judge
  marked row xs = let (p, s) = lines_marked row xs in moved (also (also (also (once_marked row [] xs) (sized_marked row xs)) p) s)

  pub count_marked : (row : Row) (xs : List Item) → count_named row (map (remark f) xs) ≡ count_named row xs
  unfolding count_named remark
  count_marked row [] = refl
  count_marked row (x ∷ xs) = rw (count_marked row xs)
