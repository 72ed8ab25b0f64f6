-- What 26 says, over any row and any run: it is asked behind 12 and before 13 and 14, of the earliest, of what the row names alone; and no row names a
-- constructor.
use Prim.Native.Nat.{ℕ, ◌%◌}
use mathlib.Core.Path.{◌≡◌, refl, sym, ap, ◌∙◌}
use mathlib.Core.Bool.{Bool, true, false, true≢false}
use mathlib.Core.List.{List, [], ◌∷◌, ◌++◌}
use mathlib.Core.Logic.{◌⊎◌, ⊎_elim}
use lib.Dec.{eqb}
use borrow.Author.Tests.{eqb-true, ne_eqb}
use native.Mathlib.Omega.{arith}
use Rattle.operation.specs.Row.{Row, Line, Item, key, members, some_of, among, on_line, named}
use Rattle.operation.specs.Rows.{Operation, operations}
use Rattle.operation.specs.Book.{keys_of, Each, none, more, Once, Sized}
use Rattle.operation.specs.Faults.{First, Missized, RowFault, again, missized, missing, both}
use Rattle.operation.specs.Demands.{RowFor, listed, unasked}
use Rattle.operation.proofs.Lines.{all, of_all, each}
use Rattle.operation.proofs.RowFaults.{not_missized}

module _ {row : Row} {xs : List Item} where
  pub nothing_again : {d : ℕ} → RowFault row xs 26 d → Once row (keys_of xs)
  nothing_again (missized o f) = o

  pub all_sized : {n d : ℕ} → RowFault row xs n d → (n ≡ 13) ⊎ (n ≡ 14) → Each (Sized row) xs
  all_sized (again before x behind e o m r u) q = absurd (⊎_elim (λ z. omega arith) (λ z. omega arith) q)
  all_sized (missized o f) q = absurd (⊎_elim (λ z. omega arith) (λ z. omega arith) q)
  all_sized (missing o s f) q = s
  all_sized (both o s e f y) q = s

module _ (row : Row) where
  -- what stands before the first of a wrong size is of a right one
  pub earliest : {xs : List Item} {x : Item} → First (Missized row) xs x →
      (before : List Item) × (behind : List Item) × (xs ≡ before ++ (x ∷ behind)) × Each (Sized row) before × Missized row x
  earliest {xs = x ∷ xs} (First.here m) = ([], xs, refl, none, m)
  earliest (First.later {y = y} n f) = let (before, behind, e, s, m) = earliest f in (y ∷ before, behind, ap (λ l. y ∷ l) e, more (not_missized row y n) s, m)

  pub unnamed_of_any_size : (x : Item) → named row x.is ≡ false → Sized row x
  unnamed_of_any_size x e n = absurd (true≢false (sym n ∙ e))

-- ---- in each row of the paper: a constructor is named by none
abbrev primitive : ℕ → Bool
primitive k = eqb (k % 2) 0

abbrev primitives : Line → Bool
primitives l = all primitive (members l)

abbrev row_primitive : Operation → Bool
row_primitive o = all primitives o.row

all_primitive : all row_primitive operations ≡ true
unfolding all members key operations
all_primitive = refl

not_among : (n : ℕ) (ks : List ℕ) → all primitive ks ≡ true → among ks (key n 1) ≡ false
unfolding all among some_of key
not_among n [] e = refl
not_among n (k ∷ ks) e =
    let (a, b) = each (primitive k) _ e in
    let h = eqb-true (k % 2) 0 a in
    rw (ne_eqb (key n 1) k (λ z. omega arith), not_among n ks b)

not_named : (n : ℕ) (row : Row) → all primitives row ≡ true → named row (key n 1) ≡ false
unfolding all named on_line
not_named n [] e = refl
not_named n (l ∷ ls) e = let (a, b) = each (primitives l) _ e in rw (not_among n (members l) a, not_named n ls b)

pub no_constructor : {kind specifier : ℕ} {row : Row} → RowFor kind specifier row → (n : ℕ) → named row (key n 1) ≡ false
unfolding named
no_constructor {row = row} (listed _ m) n = not_named n row (of_all row_primitive m all_primitive)
no_constructor (unasked _) n = refl
