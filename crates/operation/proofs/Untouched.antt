-- Newcomers that a row does not name change neither its judgement nor its count.
use Prim.Native.Nat.{ℕ}
use mathlib.Core.Path.{◌≡◌, refl}
use mathlib.Core.Bool.{Bool, true, false, ◌&&◌, true≢false}
use mathlib.Core.List.{List, [], ◌∷◌}
use borrow.Author.Tests.{ne_eqb}
use Rattle.element.specs.Octets.{if}
use Rattle.operation.specs.Row.{Row, Line, Item, on_line, named}
use Rattle.operation.specs.Judge.{occurs, last_mark, once, sized, present, single, judge, count_named}
use Rattle.operation.proofs.Newcomers.{Grown, done, kept, newcomer}
use Rattle.operation.proofs.Lines.{or-false, met_same}

-- what the row names occurs in both or in neither
pub same : {row : Row} {xs ys : List Item} → Grown row xs ys → (k : ℕ) → named row k ≡ true → occurs k ys ≡ occurs k xs
unfolding occurs
same done k h = refl
same (kept x g) k h = rw (same g k h)
same (newcomer x e g) k h = rw (ne_eqb x.is k λ p. true≢false (cc)) (same g k h)

only : (a b : Bool) {u v : Bool} → (a ≡ true → u ≡ v) → (a && (b && u)) ≡ (a && (b && v))
only true b h = rw (h refl)
only false b h = refl

once_same : {row : Row} {s t xs ys : List Item} → Grown row s t → Grown row xs ys → once row t ys ≡ once row s xs
unfolding once
once_same s done = refl
once_same {row} s (kept x g) = rw (only (named row x.is) _ (same s x.is), once_same (kept x s) g)
once_same s (newcomer x e g) = rw e (once_same (newcomer x e s) g)

sized_same : {row : Row} {xs ys : List Item} → Grown row xs ys → sized row ys ≡ sized row xs
unfolding sized
sized_same done = refl
sized_same (kept x g) = rw (sized_same g)
sized_same (newcomer x e g) = rw e (sized_same g)

narrow : {l : Line} {ls : Row} {xs ys : List Item} → Grown (l ∷ ls) xs ys → Grown ls xs ys
unfolding named
narrow done = done
narrow (kept x g) = kept x (narrow g)
narrow {l} (newcomer x e g) = newcomer x (or-false (on_line l x.is) _ e).1 (narrow g)

last_same : {l : Line} {ls : Row} (m : ℕ) {xs ys : List Item} → Grown (l ∷ ls) xs ys → last_mark l m ys ≡ last_mark l m xs
unfolding named last_mark
last_same m done = refl
last_same {l} m (kept x g) = last_same (if (on_line l x.is) x.mark m) g
last_same {l} m (newcomer x e g) = rw (or-false (on_line l x.is) _ e).0 (last_same m g)

lines_same : (row : Row) {xs ys : List Item} → Grown row xs ys → (present row ys ≡ present row xs) × (single row ys ≡ single row xs)
unfolding named present single
lines_same [] g = (refl, refl)
lines_same (l ∷ ls) {xs} {ys} g =
    let (p, s) = lines_same ls (narrow g) in
    let (m, d) = met_same xs ys l λ k e. same g k (rw e) in
    rw (m, d, last_same 0 g, p, s) (refl, refl)

pub untouched : (row : Row) (xs ys : List Item) → Grown row xs ys → judge row ys ≡ judge row xs
unfolding judge
untouched row xs ys g = let (p, s) = lines_same row g in rw (once_same done g, sized_same g, p, s)

pub counted : {row : Row} {xs ys : List Item} → Grown row xs ys → count_named row ys ≡ count_named row xs
unfolding count_named
counted done = refl
counted (kept x g) = rw (counted g)
counted (newcomer x e g) = rw e (counted g)
