-- No second outcome fits a promise: what an answer tells leads back to it. (Promises that equate the outcome itself need only
-- `one_outcome` of element.)
use Prim.Native.Nat.{ℕ}
use mathlib.Core.Path.{◌≡◌, refl, sym, ap, ◌∙◌}
use lib.Dec.{eqb}
use native.Mathlib.Omega.{arith}
use Rattle.std.specs.Prelude.{Result, Ok, Err, Option, Some, None}
use Rattle.element.specs.declared.refusal.Refusal as F
use Rattle.element.specs.Octets.{if}
use Rattle.element.specs.Answer.{Answer, accepted}
use Rattle.element.specs.Told.{number_of}
use Rattle.element.proofs.Outcomes.{one_answer, one_refusal}
use Rattle.component.specs.declared.Span as S
use Rattle.component.specs.declared.Entry as E
use Rattle.component.specs.declared.Head as H
use Rattle.component.specs.declared.Measured as M
use Rattle.component.specs.declared.types.Kind as K
use Rattle.component.specs.declared.types.Kind.TheVariants as KV
use Rattle.component.specs.Kinds.{octet_of, Typing}
use Rattle.component.specs.Layout.{Span, Head}
use Rattle.component.specs.Table.{Entry}
use Rattle.component.specs.Composing.{Sizes}
use Rattle.component.specs.Told.{head_said, head_in, span_said, span_in, wanted_in, entry_said, entry_in, count_in, sizes_said, measure_in}

-- `head_from`
abbrev pub kind_for : ℕ → K.Kind
kind_for octet = if (eqb octet 0xE9) KV.Invoke (if (eqb octet 0xEA) KV.Result (if (eqb octet 0xEB) KV.Error KV.Reject))

pub same_kind : (k : K.Kind) → kind_for (octet_of k) ≡ k
same_kind KV.Invoke = refl
same_kind KV.Result = refl
same_kind KV.Error = refl
same_kind KV.Reject = refl

abbrev head_for : Head → H.Head
head_for h = record { kind = kind_for h.kind; id = record { start = h.id.start; end = h.id.end }; code = h.code; set = h.set }

same_head : (h : H.Head) → head_for (head_said h) ≡ h
same_head h = ap (λ kind. record { kind = kind; id = h.id; code = h.code; set = h.set }) (same_kind h.kind)

pub one_head : {x y : Result H.Head F.Refusal} {told : Answer Head} → head_in x ≡ told → head_in y ≡ told → x ≡ y
one_head = one_answer head_said head_for same_head

-- `element_from`
pub one_span : {x y : Result S.Span F.Refusal} {told : Answer Span} → span_in x ≡ told → span_in y ≡ told → x ≡ y
one_span = one_answer span_said (λ x. record { start = x.start; end = x.end }) (λ _. refl)

-- `parameter_from`
pub one_parameter : {x y : Result E.Entry F.Refusal} {told : Answer Entry} → entry_in x ≡ told → entry_in y ≡ told → x ≡ y
one_parameter =
    one_answer entry_said (λ e. record { number = e.number; form = e.form; start = e.start; size = e.size; place = e.place }) (λ _. refl)

-- `compose`
pub one_count : {x y : Result ℕ F.Refusal} {told : Answer ℕ} → count_in x ≡ told → count_in y ≡ told → x ≡ y
one_count = one_answer (λ n. n) (λ n. n) (λ _. refl)

-- `measure`
pub one_measure : {x y : Result M.Measured F.Refusal} {told : Answer Sizes} → measure_in x ≡ told → measure_in y ≡ told → x ≡ y
one_measure = one_answer sizes_said (λ z. record { whole = z.whole; body = z.body; set = z.set }) (λ _. refl)

inner : {x y : Span} → accepted x ≡ accepted y → x ≡ y
inner e = cc

-- `wanted_from`: an octet that is another one is refused by whatever number, and what is refused is so by one
pub one_wanted : (at : ℕ) (x y : Result (Option S.Span) F.Refusal) {told : ℕ → Answer Span} →
    ((n : ℕ) → wanted_in n at x ≡ told n) → ((n : ℕ) → wanted_in n at y ≡ told n) → x ≡ y
one_wanted at (Ok (Some a)) (Ok (Some b)) p q =
    let e = inner (p 0 ∙ sym (q 0)) in
    ap (λ x. Ok (Some (record { start = x.start; end = x.end }))) e
one_wanted at (Ok None) (Ok None) p q = refl
one_wanted at (Err a) (Err b) p q =
    let e = p 0 ∙ sym (q 0) in
    let n : number_of a.reason ≡ number_of b.reason = cc in
    let d : a.detail ≡ b.detail = cc in
    ap Err (one_refusal n d)
one_wanted at (Ok (Some a)) (Ok None) p q = let e = p 0 ∙ sym (q 0) in let z : ◌≡◌ {A = ℕ} 0 1 = cc in absurd (omega arith)
one_wanted at (Ok (Some a)) (Err b) p q = let e = p 0 ∙ sym (q 0) in let z : ◌≡◌ {A = ℕ} 0 1 = cc in absurd (omega arith)
one_wanted at (Ok None) (Ok (Some b)) p q = let e = p 0 ∙ sym (q 0) in let z : ◌≡◌ {A = ℕ} 0 1 = cc in absurd (omega arith)
one_wanted at (Err a) (Ok (Some b)) p q = let e = p 0 ∙ sym (q 0) in let z : ◌≡◌ {A = ℕ} 0 1 = cc in absurd (omega arith)
one_wanted at (Ok None) (Err b) p q = let e = p 0 ∙ sym (q 0) in let f = p 1 ∙ sym (q 1) in let z : ◌≡◌ {A = ℕ} 0 1 = cc in absurd (omega arith)
one_wanted at (Err a) (Ok None) p q = let e = p 0 ∙ sym (q 0) in let f = p 1 ∙ sym (q 1) in let z : ◌≡◌ {A = ℕ} 0 1 = cc in absurd (omega arith)

-- `Kind::try_from`
pub one_kind : (octet : ℕ) (x y : Result K.Kind F.Refusal) → Typing octet x → Typing octet y → x ≡ y
one_kind octet (Ok a) (Ok b) (p, _) (q, _) = ap Ok (sym (same_kind a) ∙ ap kind_for (p ∙ sym q) ∙ same_kind b)
one_kind octet (Err a) (Err b) (p, _) (q, _) = ap Err (p ∙ sym q)
one_kind octet (Ok a) (Err b) (_, p) (_, q) = let z : ◌≡◌ {A = ℕ} 0 1 = cc in absurd (omega arith)
one_kind octet (Err a) (Ok b) (_, p) (_, q) = let z : ◌≡◌ {A = ℕ} 0 1 = cc in absurd (omega arith)
