-- A row is found where the book has it: no two rows are of one operation and component type.
use Prim.Native.Nat.{ℕ}
use mathlib.Core.Path.{◌≡◌, refl, sym, ap}
use mathlib.Core.Bool.{Bool, true, false, ◌&&◌, not}
use mathlib.Core.List.{List, [], ◌∷◌, Memᴰ}
use mathlib.Core.Logic.{inl, inr, ⊎_elim}
use lib.Dec.{eqb}
use borrow.Author.Tests.{eqb-true, eq-eqb, ne_eqb, not-true}
use native.Mathlib.Decide.{ℕ_discrete}
use native.Mathlib.Omega.{arith}
use Rattle.element.specs.Octets.{if}
use Rattle.element.specs.Answer.{accepted, refused}
use Rattle.operation.specs.Row.{Row}
use Rattle.operation.specs.Rows.{Operation, operations}
use Rattle.operation.specs.Finding.{find, rowed, row_of}
use Rattle.operation.specs.Demands.{Rowed, RowFor, listed, unasked, NoRow}
use Rattle.component.proofs.Deciding.{ask}
use Rattle.operation.proofs.Lines.{each}
use Rattle.operation.proofs.Readings.{either_row}

unfoldable fresh : (kind specifier : ℕ) → List Operation → Bool
fresh k p [] = true
fresh k p (o ∷ os) = not (eqb o.kind k && eqb o.specifier p) && fresh k p os

unfoldable distinct : List Operation → Bool
distinct [] = true
distinct (o ∷ os) = fresh o.kind o.specifier os && distinct os

all_distinct : distinct operations ≡ true
unfolding distinct fresh operations
all_distinct = refl

-- the types that have rows
dec_rowed : (kind : ℕ) → Dec (Rowed kind)
dec_rowed kind = ask (ℕ_discrete kind 0xE9) (λ e. yes (inl e)) λ n. ask (ℕ_discrete kind 0xEA) (λ e. yes (inr e)) λ m. no (⊎_elim n m)

row_asked : {kind : ℕ} → Rowed kind → rowed kind ≡ true
unfolding rowed
row_asked (inl e) = rw e
row_asked (inr e) = rw e

pub none_asked : {kind : ℕ} → (Rowed kind → ⊥) → rowed kind ≡ false
unfolding rowed
none_asked {kind} n = rw (ne_eqb kind 0xE9 (λ e. n (inl e)), ne_eqb kind 0xEA (λ e. n (inr e)))

same_operation : {o : Operation} {kind specifier : ℕ} {row : Row} → kind ≡ o.kind → specifier ≡ o.specifier → row ≡ o.row →
    record { kind = kind; specifier = specifier; row = row } ≡ o
same_operation p q r = rw (p, q, r)

-- what is fresh is not of this operation
not_this : {kind specifier : ℕ} (k p : ℕ) {row : Row} {os : List Operation} → fresh k p os ≡ true → Memᴰ (record { kind = kind; specifier = specifier; row = row }) os →
    (eqb kind k && eqb specifier p) ≡ false
unfolding fresh
not_this k p {os = []} e m = elim m [ ]
not_this {kind} {specifier} k p {os = o ∷ os} e (Memᴰ.head q) =
    let a : kind ≡ o.kind = ap (λ x. x.kind) q in
    let b : specifier ≡ o.specifier = ap (λ x. x.specifier) q in
    rw (a, b) (not-true _ (each (not (eqb o.kind k && eqb o.specifier p)) _ e).0)
not_this k p {os = o ∷ os} e (Memᴰ.tail m) = not_this k p (each (not (eqb o.kind k && eqb o.specifier p)) _ e).1 m

module _ (kind specifier : ℕ) (row : Row) where
  abbrev this : Operation
  this = record { kind = kind; specifier = specifier; row = row }

  found_in : (os : List Operation) → find kind specifier 0 os ≡ accepted row → Memᴰ this os
  unfolding find
  found_in [] e = let z : ◌≡◌ {A = ℕ} 0 1 = cc in absurd (omega arith)
  found_in (o ∷ os) e = go (eqb kind o.kind) (eqb specifier o.specifier) refl refl (found_in os) e
    where
      go : (a b : Bool) → eqb kind o.kind ≡ a → eqb specifier o.specifier ≡ b → (find kind specifier 0 os ≡ accepted row → Memᴰ this os) →
          if (a && b) (accepted o.row) (find kind specifier 0 os) ≡ accepted row → Memᴰ this (o ∷ os)
      go true true p q f e =
          let k = eqb-true kind o.kind p in
          let s = eqb-true specifier o.specifier q in
          let r : o.row ≡ row = cc in
          Memᴰ.head (same_operation k s (sym r))
      go true false p q f e = Memᴰ.tail (f e)
      go false b p q f e = Memᴰ.tail (f e)

  find_it : (os : List Operation) → distinct os ≡ true → Memᴰ this os → find kind specifier 0 os ≡ accepted row
  unfolding find distinct
  find_it [] d m = elim m [ ]
  find_it (o ∷ os) d (Memᴰ.head q) =
      let a : kind ≡ o.kind = ap (λ x. x.kind) q in
      let b : specifier ≡ o.specifier = ap (λ x. x.specifier) q in
      rw (eq-eqb kind o.kind a, eq-eqb specifier o.specifier b) (ap (λ x. accepted x.row) (sym q))
  find_it (o ∷ os) d (Memᴰ.tail m) =
      let (e, f) = each (fresh o.kind o.specifier os) _ d in
      rw (not_this o.kind o.specifier e m) (find_it os f m)

  pub has_row : row_of kind specifier 0 ≡ accepted row → RowFor kind specifier row
  unfolding row_of
  has_row e = ask (dec_rowed kind) (λ k. listed k (found_in operations (rw (row_asked k) at e))) λ n. none n (rw (none_asked n) at e)
    where
      none : (Rowed kind → ⊥) → accepted [] ≡ accepted row → RowFor kind specifier row
      none n e =
          let q : [] ≡ row = cc in
          let u : RowFor kind specifier [] = unasked n in
          rw q at u

pub its_row : (kind specifier : ℕ) (row : Row) → RowFor kind specifier row → row_of kind specifier 0 ≡ accepted row
unfolding row_of
its_row kind specifier row (listed k m) = rw (row_asked k) (find_it kind specifier row operations all_distinct m)
its_row kind specifier row (unasked n) = rw (none_asked n) refl

module _ (kind specifier : ℕ) where
  pub has_none : row_of kind specifier 0 ≡ refused 11 0 → NoRow kind specifier
  has_none e row m =
      let f = its_row kind specifier row m in
      let z : ◌≡◌ {A = ℕ} 0 1 = cc in
      omega arith

  pub no_row_found : NoRow kind specifier → row_of kind specifier 0 ≡ refused 11 0
  no_row_found h = ⊎_elim (λ (row, f). absurd (h row (has_row kind specifier row (f 0)))) (λ f. f 0) (either_row kind specifier)
