-- No second outcome fits a promise that equates the outcome, or what it tells, with a definition.
use Prim.Native.Nat.{ℕ}
use mathlib.Core.Path.{◌≡◌, refl, sym, ap, ◌∙◌}
use lib.Dec.{eqb}
use Rattle.std.specs.Prelude.{Result, Ok, Err}
use Rattle.element.specs.declared.refusal.Reason as R
use Rattle.element.specs.declared.refusal.Reason.TheVariants as RV
use Rattle.element.specs.declared.refusal.Refusal as F
use Rattle.element.specs.Octets.{if}
use Rattle.element.specs.Answer.{Answer, accepted, refused}
use Rattle.element.specs.Told.{number_of, told}

pub one_outcome : {A : Type 0} {x y outcome : A} → x ≡ outcome → y ≡ outcome → x ≡ y
one_outcome p q = p ∙ sym q

-- of an answer that is told by its cases: what it tells leads back to it
pub one_told : {A B : Type 0} (tell : A → B) (back : B → A) → ((x : A) → back (tell x) ≡ x) → {x y : A} {told : B} → tell x ≡ told → tell y ≡ told → x ≡ y
one_told tell back again {x = x} {y = y} p q = sym (again x) ∙ ap back (p ∙ sym q) ∙ again y

-- ---- a refusal: its number leads back to the reason
abbrev reason_of : ℕ → R.Reason
reason_of n =
    if (eqb n (number_of RV.Table)) RV.Table (
    if (eqb n (number_of RV.Size)) RV.Size (
    if (eqb n (number_of RV.Type)) RV.Type (
    if (eqb n (number_of RV.Length)) RV.Length (
    if (eqb n (number_of RV.Overrun)) RV.Overrun (
    if (eqb n (number_of RV.Id)) RV.Id (
    if (eqb n (number_of RV.Operation)) RV.Operation (
    if (eqb n (number_of RV.Set)) RV.Set (
    if (eqb n (number_of RV.Identifier)) RV.Identifier (
    if (eqb n (number_of RV.Many)) RV.Many (
    if (eqb n (number_of RV.NoRow)) RV.NoRow (
    if (eqb n (number_of RV.Again)) RV.Again (
    if (eqb n (number_of RV.Missing)) RV.Missing (
    if (eqb n (number_of RV.Both)) RV.Both (
    if (eqb n (number_of RV.TooLong)) RV.TooLong (
    if (eqb n (number_of RV.Entry)) RV.Entry (
    if (eqb n (number_of RV.Output)) RV.Output (
    if (eqb n (number_of RV.LeftOver)) RV.LeftOver (
    if (eqb n (number_of RV.Problem)) RV.Problem (
    if (eqb n (number_of RV.Layout)) RV.Layout (
    if (eqb n (number_of RV.Count)) RV.Count (
    if (eqb n (number_of RV.Package)) RV.Package (
    if (eqb n (number_of RV.Ended)) RV.Ended (
    RV.WrongSize)))))))))))))))))))))))

same_reason : (r : R.Reason) → reason_of (number_of r) ≡ r
same_reason RV.Table = refl
same_reason RV.Size = refl
same_reason RV.Type = refl
same_reason RV.Length = refl
same_reason RV.Overrun = refl
same_reason RV.Id = refl
same_reason RV.Operation = refl
same_reason RV.Set = refl
same_reason RV.Identifier = refl
same_reason RV.Many = refl
same_reason RV.NoRow = refl
same_reason RV.Again = refl
same_reason RV.Missing = refl
same_reason RV.Both = refl
same_reason RV.TooLong = refl
same_reason RV.Entry = refl
same_reason RV.Output = refl
same_reason RV.LeftOver = refl
same_reason RV.Problem = refl
same_reason RV.Layout = refl
same_reason RV.Count = refl
same_reason RV.Package = refl
same_reason RV.Ended = refl
same_reason RV.WrongSize = refl

pub one_refusal : {a b : F.Refusal} → number_of a.reason ≡ number_of b.reason → a.detail ≡ b.detail → a ≡ b
one_refusal {a} {b} e f =
    let same : a.reason ≡ b.reason = sym (same_reason a.reason) ∙ ap reason_of e ∙ same_reason b.reason in
    λ i. record { reason = same i; detail = f i }

abbrev answer_for : {A B : Type 0} → (B → A) → Answer B → Result A F.Refusal
answer_for g (accepted b) = Ok (g b)
answer_for g (refused n d) = Err (record { reason = reason_of n; detail = d })

module _ {A B : Type 0} (f : A → B) (g : B → A) (again : (a : A) → g (f a) ≡ a) where
  same_answer : (r : Result A F.Refusal) → answer_for g (told f r) ≡ r
  same_answer (Ok a) = ap Ok (again a)
  same_answer (Err r) = ap (λ reason. Err (record { reason = reason; detail = r.detail })) (same_reason r.reason)

  -- of an answer whose values lead back to it
  pub one_answer : {x y : Result A F.Refusal} {t : Answer B} → told f x ≡ t → told f y ≡ t → x ≡ y
  one_answer = one_told (told f) (answer_for g) same_answer
