-- Octets lay out one component.
use Prim.Native.Nat.{ℕ}
use mathlib.Core.Path.{◌≡◌, refl, sym, ap, ◌∙◌}
use mathlib.Core.Bool.{true, false}
use mathlib.Core.List.{List, [], ◌∷◌, ◌++◌, append_assoc}
use lib.ListN.{length, drop, length-append}
use lib.Seq.{take-append_seam, drop-append_seam}
use native.Mathlib.Omega.{arith}
use Rattle.element.specs.Octets.{Octets}
use Rattle.element.specs.Decoded.{an_identifier, length_at, identifier_at}
use Rattle.element.specs.Identifier.{IdentifierField}
use Rattle.element.proofs.LengthLaws as L
use Rattle.element.proofs.IdentifierLaws as I
use Rattle.component.specs.Types.{Coding, coded}
use Rattle.component.specs.Grammar.{Parameter, Element, laid, Parameters, none, more, Component, Coded, absent, present, Laid}
use Rattle.component.proofs.Complete.{longer, first_octet}

-- the same octets, cut at the same place
cut : (a a' b b' : Octets) → length a ≡ length a' → a ++ b ≡ a' ++ b' → (a ≡ a') × (b ≡ b')
cut a a' b b' l e =
    (sym (take-append_seam a b) ∙ rw (e, l) (take-append_seam a' b'), sym (drop-append_seam a b) ∙ rw (e, l) (drop-append_seam a' b'))

same_element : {head head' body body' s s' : Octets} → Element head body s → Element head' body' s' → length head ≡ length head' →
    (r r' : Octets) → s ++ r ≡ s' ++ r' → (body ≡ body') × (r ≡ r')
same_element {head} {head'} {body} {body'} (laid f p) (laid g q) k r r' e =
    let d = (cut head head' (f ++ (body ++ r)) (g ++ (body' ++ r')) k (simp append_assoc at e)).1 in
    let l : length_at (f ++ (body ++ r)) ≡ length_at (g ++ (body' ++ r')) = rw d in
    let m = L.complete p (body ++ r) in
    let n = L.complete q (body' ++ r') in
    let (j, i) = L.same_length (sym m ∙ l ∙ n) in
    cut body body' r r' j (cut f g (body ++ r) (body' ++ r') i d).1

-- the same octets have the same type
same_head : {a b : ℕ} {body body' s : Octets} → Element (a ∷ []) body s → Element (b ∷ []) body' s → (a ≡ b) × (body ≡ body')
same_head w v = (sym (first_octet w []) ∙ first_octet v [], (same_element w v refl [] [] refl).0)

pub element_unique : {head body body' s s' : Octets} → Element head body s → Element head body' s' →
    (r r' : Octets) → s ++ r ≡ s' ++ r' → (body ≡ body') × (r ≡ r')
element_unique w v r r' e = same_element w v refl r r' e

identified : {number form : ℕ} {head body s : Octets} → IdentifierField number form head → Element head body s → (r : Octets) →
    identifier_at (s ++ r) ≡ an_identifier number form (length head)
identified {body = body} n (laid field p) r = simp append_assoc (I.complete n (field ++ (body ++ r)))

same_parameters : {ps qs : List Parameter} {s t : Octets} → Parameters ps s → Parameters qs t → s ≡ t → ps ≡ qs
same_parameters none none e = refl
same_parameters none (more q m v u) e = absurd (omega (arith, simp length-append at (ap length e), longer v))
same_parameters (more p n w r) none e = absurd (omega (arith, simp length-append at (ap length e), longer w))
same_parameters (more p {rest = x} n w r) (more q {rest = y} m v u) e =
    let a = identified n w x in
    let b = identified m v y in
    let (f, g, j) = I.same_identifier (sym a ∙ rw e b) in
    let (c, d) = same_element w v j x y e in
    let h : p ≡ q = λ i. record { number = f i; form = g i; content = c i } in
    let l = same_parameters r u d in
    cc

same_code : {coding : Coding} {code code' e e' : Octets} → Coded coding code e → Coded coding code' e' → (r r' : Octets) → e ++ r ≡ e' ++ r' →
    (code ≡ code') × (r ≡ r')
same_code absent absent r r' q = (refl, q)
same_code {coding = coded octet number true size} (present l w) (present m v) r r' q =
    let (b, d) = element_unique w v r r' q in
    (ap (drop 1) b, d)
same_code {coding = coded octet number false size} (present l w) (present m v) r r' q = element_unique w v r r' q

pub functional : {c d : Component} {s : Octets} → Laid c s → Laid d s → c ≡ d
functional {c} {d} x y =
    let (k, e) = same_head x.whole y.whole in
    let (p, q) = element_unique x.identified y.identified (x.code ++ x.set) (y.code ++ y.set) (simp append_assoc at e) in
    let (m, g) = same_code x.encoded (rw (← k) at y.encoded) x.set y.set q in
    let (h, _) = element_unique x.collected y.collected [] [] (rw g) in
    let l = same_parameters x.parameters y.parameters h in
    λ i. record { kind = k i; id = p i; code = m i; parameters = l i }
