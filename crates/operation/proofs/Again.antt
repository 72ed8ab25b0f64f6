-- What was read is written again with every length at its shortest, from whatever source the entries show the parameters in.
use Prim.Native.Nat.{ℕ, ◌≤◌}
use mathlib.Core.Path.{◌≡◌, refl, sym, ap, ◌∙◌}
use mathlib.Core.Bool.{Bool, true, false}
use mathlib.Core.List.{List, [], ◌∷◌}
use mathlib.Core.Logic.{inl, inr}
use lib.ListN.{length}
use lib.Dec.{eqb}
use borrow.Author.Tests.{eqb-true}
use native.Mathlib.Omega.{arith}
use Rattle.element.specs.Octets.{Octets, if}
use Rattle.element.specs.Answer.{Answer, accepted}
use Rattle.component.specs.Grammar.{Component}
use Rattle.component.specs.Standing.{Shows, Pairwise}
use Rattle.component.specs.Composed.{composed}
use Rattle.component.specs.Table.{Entry, table_with, code_of, written_code}
use Rattle.component.specs.Types.{format_of}
use Rattle.component.proofs.Composable.{Composable}
use Rattle.component.proofs.Composes.{laid_composable}
use Rattle.component.proofs.Making.{code_again, no_code, entries-again, octets-again}
use Rattle.component.proofs.Shortening.{Shorter, shorter}
use Rattle.component.proofs.Entries.{as_many}
use Rattle.operation.specs.Row.{Row}
use Rattle.operation.specs.Writing.{writing}
use Rattle.operation.specs.Codes.{operation_of, told_code}
use Rattle.operation.specs.Caller.{Wrote}
use Rattle.operation.specs.Demands.{Rowed, RowFor, listed, unasked, its_operation, its_code, puts, handed, Right, tells}
use Rattle.operation.specs.Model.{written_as}
use Rattle.operation.proofs.RowsFound.{its_row}
use Rattle.operation.proofs.RowFaults.{exact}

pub inner : {A : Type 0} {x y : A} → ◌≡◌ {A = Answer A} (accepted x) (accepted y) → x ≡ y
inner e = cc

-- what is told of a code is what a writer is handed
module _ (c : Component) (given : ℕ) where
  told_operation : Rowed c.kind → its_operation c given ≡ (its_code c given).first
  unfolding operation_of told_code code_of
  told_operation (inl e) = rw e refl
  told_operation (inr e) = rw e refl

  handed_row : {row : Row} → RowFor c.kind (its_operation c given) row → RowFor c.kind (its_code c given).first row
  handed_row (listed k m) = listed k (rw (told_operation k) at m)
  handed_row (unasked n) = unasked n

  handed_code : Composable c → written_code c.kind (its_code c given) ≡ c.code
  unfolding told_code format_of
  handed_code h = go (eqb c.kind 0xEA) refl
    where
      go : (t : Bool) → eqb c.kind 0xEA ≡ t → written_code c.kind (code_of (if t (given ∷ []) c.code)) ≡ c.code
      go true e = no_code c h (rw (eqb-true c.kind 0xEA e)) _
      go false e = code_again c h

module _ {s : Octets} {given : ℕ} {t : List ℕ} {c : Component} {row : Row} (r : Right s given t c row) where
  pub composes_again : {source : Octets} {es : List Entry} → Pairwise (Shows source) es c.parameters → (table : List ℕ) (room : ℕ) → length s ≤ room →
      written_as (handed (tells given c row) (table_with es table) source) room ≡ accepted (composed c)
  unfolding writing
  composes_again shows table room k =
      let l = r.laid_out in
      let composable = laid_composable l.laid l.within in
      rw (
        ← as_many shows,
        entries-again c composable l.few shows table,
        its_row _ _ _ (handed_row c given r.has_row),
        (exact row _).1 r.fits,
        octets-again c composable _ (handed_code c given composable) room (omega (arith, (shorter l.laid).never_longer)),
      )

-- what is written shorter or the same: the same exactly where `P` holds
pub same_or_shorter : {made s : Octets} {P : Type 0} → Shorter made s P → (out : Octets) {after : Wrote} → after ≡ puts made out →
    (P → after ≡ puts s out) × (after ≡ puts s out → P)
same_or_shorter p out e =
    (λ k. e ∙ ap (λ s. puts s out) (sym (p.same k)), λ q. p.as_long (omega (arith, inner (ap (λ w. w.answer) (sym e ∙ q)))))
