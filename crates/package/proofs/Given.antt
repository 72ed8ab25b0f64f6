-- The component reader looks at the specifier that is handed in for a RESULT alone: what it accepts, it reads alike by another.
use Prim.Native.Nat.{ℕ}
use mathlib.Core.Path.{◌≡◌, sym, ap, ◌∙◌}
use mathlib.Core.List.{List}
use mathlib.Core.Logic.{inl, inr}
use borrow.Author.Tests.{ne_eqb}
use native.Mathlib.Decide.{ℕ_discrete}
use Rattle.element.specs.Octets.{Octets, AreOctets}
use Rattle.element.specs.Answer.{accepted}
use Rattle.component.specs.Grammar.{Component}
use Rattle.component.proofs.Deciding.{ask}
use Rattle.operation.specs.Caller.{Told}
use Rattle.operation.specs.Codes.{operation_of, told_code}
use Rattle.operation.specs.Row.{Row}
use Rattle.operation.specs.Demands.{Rowed, RowFor, listed, unasked, its_operation, its_code, tells}
use Rattle.operation.specs.Model.{reader}
use Rattle.operation.proofs.Again.{inner}
use Rattle.operation.proofs.Model.{demand2_ours}

module _ {a b : ℕ} (c : Component) (h : c.kind ≡ 0xEA → a ≡ b) where
  same_operation : Rowed c.kind → its_operation c a ≡ its_operation c b
  unfolding operation_of
  same_operation (inl e) = rw e
  same_operation (inr e) = rw (h e)

  same_row : {row : Row} → RowFor c.kind (its_operation c a) row → RowFor c.kind (its_operation c b) row
  same_row (listed k m) = listed k (rw (same_operation k) at m)
  same_row (unasked n) = unasked n

  same_code : its_code c a ≡ its_code c b
  unfolding told_code
  same_code = ask (ℕ_discrete c.kind 0xEA) (λ e. rw (h e)) (λ n. rw (ne_eqb c.kind 0xEA n))

pub same_reading : (s : Octets) → AreOctets s → (t : List ℕ) {a b : ℕ} {x : Told} → (reader s a t).answer ≡ accepted x → (x.kind ≡ 0xEA → a ≡ b) →
    reader s a t ≡ reader s b t
same_reading s o t {a} {b} {x} e h =
    let (c, row, r) = demand2_ours.reader s a t o e in
    let p = demand2_ours.shown s a t o r in
    let k : tells a c row ≡ x = inner (sym (ap (λ y. y.answer) p) ∙ e) in
    let g : c.kind ≡ 0xEA → a ≡ b = λ i. h (sym (ap (λ y. y.kind) k) ∙ i) in
    let q = demand2_ours.shown s b t o (record { enough = r.enough; laid_out = r.laid_out; has_row = same_row c g r.has_row; fits = r.fits }) in
    p ∙ rw (same_code c g) (sym q)
