-- What 13 and 14 say of a group: what meets it, that 13 gives its first member's number and asks for it last, and that 14 is not of it.
use Prim.Native.Nat.{ℕ, ◌≤◌}
use mathlib.Core.Path.{◌≡◌, refl, sym}
use mathlib.Core.Bool.{Bool, true, true≢false}
use mathlib.Core.List.{List, [], ◌∷◌, Memᴰ}
use native.Mathlib.Omega.{arith}
use Rattle.operation.specs.Row.{Row, Line, must, one_of, any_of, may, Item, asks, number_of, asks_nothing, group_last}
use Rattle.operation.specs.Rows.{Operation, operations}
use Rattle.operation.specs.Book.{keys_of, Each, none, more, times, Once, Sized}
use Rattle.operation.specs.Faults.{First, Unmet, Doubled, RowFault, again, missized, missing, both}
use Rattle.operation.specs.Demands.{RowFor, listed, unasked}
use Rattle.operation.proofs.Lines.{all, of_all, of_each, each_of}

-- in any row: a group's members meet it, each alone and with others, and nothing else does
module _ (ks : List ℕ) (i : ℕ) (js : List ℕ) where
  pub each_meets : {j : ℕ} → Memᴰ j (i ∷ js) → 1 ≤ times j ks → Unmet ks (any_of i js) → ⊥
  each_meets m o u = let z = of_each (λ i. times i ks ≡ 0) u m in omega arith

  pub only_members_meet : ((j : ℕ) → Memᴰ j (i ∷ js) → times j ks ≡ 0) → Unmet ks (any_of i js)
  only_members_meet h = each_of (λ i. times i ks ≡ 0) (i ∷ js) h

-- 13 gives it by its first member
pub by_its_first : {row : Row} {xs : List Item} {i : ℕ} {js : List ℕ} → Once row (keys_of xs) → Each (Sized row) xs →
    First (Unmet (keys_of xs)) row (any_of i js) → RowFault row xs 13 (number_of i)
unfolding asks
by_its_first o s f = missing o s f

-- in each row of the paper
abbrev last_in : Operation → Bool
last_in o = group_last o.row

all_last : all last_in operations ≡ true
unfolding all group_last asks_nothing operations
all_last = refl

pub groups_last : {kind specifier : ℕ} {row : Row} → RowFor kind specifier row → group_last row ≡ true
unfolding group_last
groups_last (listed _ m) = of_all last_in m all_last
groups_last (unasked _) = refl

module _ (ks : List ℕ) where
  none_missing : (ls : Row) → asks_nothing ls ≡ true → Each (λ l. Unmet ks l → ⊥) ls
  unfolding asks_nothing
  none_missing [] e = none
  none_missing (must j ∷ ls) e = absurd (true≢false (sym e))
  none_missing (one_of i j ∷ ls) e = absurd (true≢false (sym e))
  none_missing (any_of i js ∷ ls) e = absurd (true≢false (sym e))
  none_missing (may j ∷ ls) e = more (λ u. u) (none_missing ls e)

  no_first : {ls : Row} {l : Line} → Each (λ l. Unmet ks l → ⊥) ls → First (Unmet ks) ls l → ⊥
  no_first none f = elim f [ ]
  no_first (more n e) (First.here u) = n u
  no_first (more n e) (First.later m f) = no_first e f

  nothing_else : {l : Line} {ls : Row} → Each (λ m. Unmet ks m → ⊥) ls → Each (λ m. Unmet ks m → m ≡ l) ls
  nothing_else none = none
  nothing_else (more n e) = more (λ u. absurd (n u)) (nothing_else e)

  module _ (i : ℕ) (js : List ℕ) where
    only_it : (ls : Row) → group_last ls ≡ true → First (Unmet ks) ls (any_of i js) → Each (λ l. Unmet ks l → l ≡ any_of i js) ls
    unfolding group_last
    only_it [] g f = elim f [ ]
    only_it (l ∷ ls) g (First.here h) = more (λ _. refl) (nothing_else (none_missing ls g))
    only_it (must j ∷ ls) g (First.later n f) = more (λ u. absurd (n u)) (only_it ls g f)
    only_it (one_of k j ∷ ls) g (First.later n f) = more (λ u. absurd (n u)) (only_it ls g f)
    only_it (any_of k ls' ∷ ls) g (First.later n f) = absurd (no_first (none_missing ls g) f)
    only_it (may j ∷ ls) g (First.later n f) = more (λ u. absurd (n u)) (only_it ls g f)

    -- where 13 gives a group, nothing else is missing that the row asks for
    pub only_the_group : {kind specifier : ℕ} {row : Row} → RowFor kind specifier row → First (Unmet ks) row (any_of i js) →
        Each (λ l. Unmet ks l → l ≡ any_of i js) row
    only_the_group {row = row} r f = only_it row (groups_last r) f

-- in any row 14 is of a choice, both members of which occur
the_choice : (ks : List ℕ) {row : Row} {l : Line} → First (Doubled ks) row l →
    (i : ℕ) × (j : ℕ) × Memᴰ (one_of i j) row × (1 ≤ times i ks) × (1 ≤ times j ks)
the_choice ks (First.here {x = must j} h) = absurd h
the_choice ks (First.here {x = one_of i j} (a, b)) = (i, j, Memᴰ.head refl, a, b)
the_choice ks (First.here {x = any_of i js} h) = absurd h
the_choice ks (First.here {x = may j} h) = absurd h
the_choice ks (First.later n f) = let (i, j, m, a, b) = the_choice ks f in (i, j, Memᴰ.tail m, a, b)

pub of_a_choice : {row : Row} {xs : List Item} {n d : ℕ} → RowFault row xs n d → n ≡ 14 →
    (i : ℕ) × (j : ℕ) × Memᴰ (one_of i j) row × (1 ≤ times i (keys_of xs)) × (1 ≤ times j (keys_of xs))
of_a_choice (again before x behind e o m r u) q = absurd (omega arith)
of_a_choice (missized o f) q = absurd (omega arith)
of_a_choice (missing o s f) q = absurd (omega arith)
of_a_choice {xs = xs} (both o s e f y) q = the_choice (keys_of xs) f
