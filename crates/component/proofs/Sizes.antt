-- How many octets a component takes: as many as are counted, where the octets or the count stay below 65,536.
use Prim.Native.Nat.{ℕ, min, ◌+◌, ◌<◌}
use mathlib.Core.Path.{◌≡◌, refl, ap, ◌∙◌}
use mathlib.Core.Bool.{Bool, true, false}
use mathlib.Core.List.{List, [], ◌∷◌, ◌++◌}
use lib.ListN.{length, length-append}
use native.Mathlib.Omega.{arith}
use Rattle.element.specs.Octets.{Octets}
use Rattle.element.specs.Length.{shortest}
use Rattle.element.specs.Identifier.{identifier}
use Rattle.element.proofs.LengthLaws as L
use Rattle.element.proofs.IdentifierLaws as I
use Rattle.component.specs.Types.{Coding, uncoded, coded, coding_of, with_family, family_size, code_size}
use Rattle.component.specs.Grammar.{Parameter, Component}
use Rattle.component.specs.Composed.{element, set_of, code_element, composed}
use Rattle.component.specs.Needed.{element_size, set_size, coding_size, body_size, octets_needed}

abbrev pub Same : (octets count : ℕ) → Type 0
Same m n = min m n < 65536 → m ≡ n

pub element_length : (head body : Octets) → length body < 65536 → length (element head body) ≡ element_size (length head) (length body)
unfolding element element_size
element_length head body h = simp (length-append, L.size (length body) h)

same_element : (head body : Octets) {n : ℕ} → Same (length body) n → Same (length (element head body)) (element_size (length head) n)
unfolding element element_size
same_element head body {n} e h =
    let k = length-append head (shortest (length body)) in
    let l = length-append (head ++ shortest (length body)) body in
    let f : length body ≡ n = e (omega arith) in
    element_length head body (omega arith) ∙ ap (element_size (length head)) f

pub same_set : (ps : List Parameter) → Same (length (set_of ps)) (set_size ps)
unfolding set_of set_size
same_set [] h = refl
same_set (p ∷ ps) h =
    let i = identifier p.number p.form in
    let k = length-append (element i p.content) (set_of ps) in
    let f = rw (I.size p.number p.form) at (same_element i p.content (λ _. refl)) in
    omega (arith, f (omega arith), same_set ps (omega arith))

family_length : (family : Bool) (code : Octets) {size : ℕ} → length code ≡ size → length (with_family family code) ≡ family_size family + size
family_length true code e = omega arith
family_length false code e = omega arith

pub same_code : (coding : Coding) (code : Octets) → length code ≡ code_size coding → Same (length (code_element coding code)) (coding_size coding)
unfolding code_element coding_size
same_code uncoded code e = λ _. refl
same_code (coded octet number family size) code e = same_element (octet ∷ []) (with_family family code) λ _. family_length family code e

-- the contents of the type's element
unfoldable pub body_of : Component → Octets
body_of c = element (0xCF ∷ []) c.id ++ code_element (coding_of c.kind) c.code ++ element (0xF2 ∷ []) (set_of c.parameters)

module _ (c : Component) (code : length c.code ≡ code_size (coding_of c.kind)) where
  pub same_body : Same (length (body_of c)) (body_size c.kind (length c.id) (set_size c.parameters))
  unfolding body_of body_size
  same_body h =
      let i = element (0xCF ∷ []) c.id in
      let o = code_element (coding_of c.kind) c.code in
      let f = element (0xF2 ∷ []) (set_of c.parameters) in
      let k = length-append (i ++ o) f in
      let l = length-append i o in
      omega (arith, same_element (0xCF ∷ []) c.id (λ _. refl) (omega arith), same_code (coding_of c.kind) c.code code (omega arith), same_element (0xF2 ∷ []) (set_of c.parameters) (same_set c.parameters) (omega arith))

  pub sized : Same (length (composed c)) (octets_needed c.kind (length c.id) c.parameters)
  unfolding composed body_of octets_needed
  sized = same_element (c.kind ∷ []) (body_of c) same_body
