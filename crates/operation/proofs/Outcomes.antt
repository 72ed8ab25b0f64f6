-- No second outcome fits a promise of the reader and of the writer: what an answer tells leads back to it.
use Prim.Native.Nat.{ℕ}
use mathlib.Core.Path.{◌≡◌, refl, sym, ap, ◌∙◌}
use native.Mathlib.Omega.{arith}
use Rattle.std.specs.Prelude.{Result, Ok, Err, IfOk, IfErr}
use Rattle.element.specs.declared.refusal.Refusal as F
use Rattle.element.specs.Answer.{Answer, accepted, refused}
use Rattle.element.specs.Told.{number_of}
use Rattle.element.proofs.Outcomes.{one_answer, one_refusal}
use Rattle.component.proofs.Outcomes.{kind_for, same_kind}
use Rattle.operation.specs.declared.Reading as R
use Rattle.operation.specs.Caller.{Told}
use Rattle.operation.specs.Packed.{packed_reading}
use Rattle.operation.specs.Summaries.{Summarizes}
use Rattle.operation.proofs.Again.{inner}
use Rattle.operation.specs.Told.{reading_said, answer_in, written_in}

abbrev reading_for : Told → R.Reading
reading_for t = record { kind = kind_for t.kind; id = t.id; code = t.code; all = t.all; named = t.named; other = t.other }

same_reading : (r : R.Reading) → reading_for (reading_said r) ≡ r
same_reading r =
    ap (λ kind. record { kind = kind; id = r.id; code = r.code; all = r.all; named = r.named; other = r.other }) (same_kind r.kind)

pub one_reading : {x y : Result R.Reading F.Refusal} {told : Answer Told} → answer_in x ≡ told → answer_in y ≡ told → x ≡ y
one_reading = one_answer reading_said reading_for same_reading

pub one_writing : {x y : Result ℕ F.Refusal} {told : Answer ℕ} → written_in x ≡ told → written_in y ≡ told → x ≡ y
one_writing = one_answer (λ n. n) (λ n. n) (λ _. refl)

-- `summarize`
pub one_summary : (a : Answer Told) (x y : Result ℕ F.Refusal) →
    IfOk x (λ summary. Summarizes summary a) → IfErr x (λ r. refused (number_of r.reason) r.detail ≡ a) →
    IfOk y (λ summary. Summarizes summary a) → IfErr y (λ r. refused (number_of r.reason) r.detail ≡ a) → x ≡ y
one_summary a (Ok x) (Ok y) p _ q _ =
    let e : p.told ≡ q.told = inner (sym p.is ∙ q.is) in
    ap Ok (p.packed ∙ ap (λ t. packed_reading (accepted t)) e ∙ sym q.packed)
one_summary a (Err x) (Err y) _ p _ q =
    let e = p ∙ sym q in
    let n : number_of x.reason ≡ number_of y.reason = cc in
    let d : x.detail ≡ y.detail = cc in
    ap Err (one_refusal n d)
one_summary a (Ok x) (Err y) p _ _ q = let e = q ∙ p.is in let z : ◌≡◌ {A = ℕ} 0 1 = cc in absurd (omega arith)
one_summary a (Err x) (Ok y) _ p q _ = let e = p ∙ q.is in let z : ◌≡◌ {A = ℕ} 0 1 = cc in absurd (omega arith)
