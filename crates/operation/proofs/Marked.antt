-- Parameters as a row sees them, marked by their indices or by the places of the entries that show them.
use Prim.Native.Nat.{ℕ, suc, ◌+◌, ◌<◌}
use mathlib.Core.Path.{◌≡◌, refl, ap, ◌∙◌}
use mathlib.Core.List.{List, [], ◌∷◌, map, Memᴰ}
use lib.ListN.{length}
use native.Mathlib.Omega.{arith}
use Rattle.element.specs.Octets.{Octets}
use Rattle.component.specs.Table.{Entry}
use Rattle.component.specs.Grammar.{Parameter}
use Rattle.component.specs.Standing.{Shows, Pairwise, none, more}
use Rattle.operation.specs.Row.{Row, Item}
use Rattle.operation.specs.Judge.{judge, remark, pointed}
use Rattle.operation.proofs.Newcomers as N
use Rattle.operation.specs.Items.{item_of, items_of}
use Rattle.operation.specs.Demands.{place_in, key_of, Joined, done, kept, newcomer, moved}
use Rattle.operation.proofs.Marks.{marked}

-- the i-th is marked by `f i`
pub marks : (ℕ → ℕ) → List Parameter → List Item
marks f [] = []
marks f (p ∷ ps) = record { is = key_of p; size = length p.content; mark = f 0 } ∷ marks (λ i. f (suc i)) ps

remarked : (g f : ℕ → ℕ) (i : ℕ) → ((j : ℕ) → g (i + j) ≡ f j) → (ps : List Parameter) → map (remark g) (items_of i ps) ≡ marks f ps
unfolding marks remark items_of
remarked g f i h [] = refl
remarked g f i h (p ∷ ps) =
    let e : g i ≡ f 0 = ap g (omega arith) ∙ h 0 in
    rw (e, remarked g (λ j. f (suc j)) (i + 1) (λ j. ap g (omega arith) ∙ h (suc j)) ps)

module _ (row : Row) (f : ℕ → ℕ) (ps : List Parameter) where
  pub judged : judge row (marks f ps) ≡ pointed f (judge row (items_of 0 ps))
  judged = rw (← remarked f f 0 (λ j. ap f (omega arith)) ps) (marked f row (items_of 0 ps))

-- entries count up to their number
pub inside : (i : ℕ) (ps : List Parameter) {x : Item} → Memᴰ x (items_of i ps) → x.mark < i + length ps
unfolding items_of
inside i [] m = elim m [ ]
inside i (p ∷ ps) (Memᴰ.head q) = omega (arith, ap (λ x. x.mark) q)
inside i (p ∷ ps) (Memᴰ.tail m) = omega (arith, inside (i + 1) ps m)

pub items : {s : Octets} {es : List Entry} {ps : List Parameter} → Pairwise (Shows s) es ps → (map item_of es ≡ marks (place_in es) ps) × (length es ≡ length ps)
unfolding item_of marks place_in
items none = (refl, refl)
items (more h w) = let (e, l) = items w in (rw (h.number, h.form, h.size, e), omega arith)

-- ---- with newcomers
module _ {row : Row} where
  pub grown : (f : ℕ → ℕ) {ps qs : List Parameter} (j : Joined row ps qs) → N.Grown row (marks (λ i. f (moved j i)) ps) (marks f qs)
  unfolding marks moved
  grown f done = N.done
  grown f (kept p j) = N.kept _ (grown (λ i. f (suc i)) j)
  grown f (newcomer p u j) = N.newcomer _ u (grown (λ i. f (suc i)) j)
