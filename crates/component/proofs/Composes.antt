-- What is composed is laid out, and what is laid out can be composed.
use Prim.Native.Nat.{◌≤◌}
use mathlib.Core.Path.{◌≡◌, refl}
use mathlib.Core.List.{List, [], ◌∷◌, ◌++◌}
use lib.ListN.{length, length-append}
use native.Mathlib.Omega.{arith}
use Rattle.element.specs.Octets.{Octets}
use Rattle.element.specs.Length.{shortest}
use Rattle.element.specs.Identifier.{only, identifier}
use Rattle.element.proofs.LengthLaws.{short}
use Rattle.element.proofs.IdentifierLaws as I
use Rattle.component.specs.Types.{Coding, uncoded, coded, coding_of, code_size}
use Rattle.component.specs.Grammar.{Parameter, Element, laid, Parameters, none, more, Component, Coded, absent, present, Laid}
use Rattle.component.specs.Composed.{element, set_of, code_element, composed}
use Rattle.component.proofs.Composable.{Composable, Identified}
use Rattle.component.proofs.Shortening.{shorter}

-- ---- composed
pub within : (head body : Octets) → length body ≤ length (element head body)
unfolding element
within head body = simp length-append (omega arith)

pub element_of : (head body : Octets) → length (element head body) ≤ 4096 → Element head body (element head body)
unfolding element
element_of head body h = laid (shortest (length body)) (short (length body) (omega (arith, within head body)))

set_of_lem : (ps : List Parameter) → Identified ps → length (set_of ps) ≤ 4096 → Parameters ps (set_of ps)
unfolding set_of
set_of_lem [] i h = none
set_of_lem (p ∷ ps) i h =
    let l = length-append (element (identifier p.number p.form) p.content) (set_of ps) in
    more p (only p.number p.form i.0 i.1) (element_of _ p.content (omega arith)) (set_of_lem ps i.2 (omega arith))

code_of : (coding : Coding) (code : Octets) → length code ≡ code_size coding → length (code_element coding code) ≤ 4096 → Coded coding code (code_element coding code)
unfolding code_element
code_of uncoded [] e h = absent
code_of uncoded (a ∷ code) e h = absurd (omega arith)
code_of (coded octet number family size) code e h = present e (element_of _ _ h)

pub composes : {c : Component} → Composable c → Laid c (composed c)
unfolding composed
composes {c} h =
    let i = element (0xCF ∷ []) c.id in
    let o = code_element (coding_of c.kind) c.code in
    let f = element (0xF2 ∷ []) (set_of c.parameters) in
    let k = simp length-append at (within (c.kind ∷ []) (i ++ o ++ f)) in
    let l = within (0xF2 ∷ []) (set_of c.parameters) in
    record {
      id = i;
      code = o;
      set = f;
      contents = set_of c.parameters;
      allowed = h.allowed;
      identified = element_of _ c.id (omega arith);
      encoded = code_of _ c.code h.code (omega arith);
      parameters = set_of_lem _ h.identified (omega arith);
      collected = element_of _ (set_of c.parameters) (omega arith);
      whole = element_of _ _ h.size;
    }

-- ---- laid out
identified : {ps : List Parameter} {s : Octets} → Parameters ps s → Identified ps
identified none = tt
identified (more p n w r) = ((I.bounded n).0, (I.bounded n).1, identified r)

code_size_lem : {coding : Coding} {code s : Octets} → Coded coding code s → length code ≡ code_size coding
code_size_lem absent = refl
code_size_lem (present e w) = e

pub laid_composable : {c : Component} {s : Octets} → Laid c s → length s ≤ 4096 → Composable c
laid_composable x h = record { allowed = x.allowed; code = code_size_lem x.encoded; identified = identified x.parameters; size = omega (arith, (shorter x).never_longer) }
