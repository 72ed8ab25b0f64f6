-- How many octets are composed, and a component as its head and its parameters.
use Prim.Native.Nat.{ℕ, ◌+◌, ◌≤◌}
use mathlib.Core.Path.{◌≡◌, refl, ap, ◌∙◌}
use mathlib.Core.List.{List, [], ◌∷◌, ◌++◌, append_assoc}
use lib.ListN.{length, take, drop, length-append}
use lib.Seq.{length-take-le}
use borrow.Author.Tests.{lt-ltb}
use native.Mathlib.Omega.{arith}
use Rattle.element.specs.Octets.{Octets}
use Rattle.element.specs.Length.{shortest}
use Rattle.component.specs.declared.Id as D
use Rattle.component.specs.declared.Code as E
use Rattle.component.specs.Types.{coding_of, code_size, Allowed}
use Rattle.component.specs.Grammar.{Parameter}
use Rattle.component.specs.Composed.{element, set_of, composed}
use Rattle.component.specs.Needed.{element_size, set_size, body_size, octets_needed}
use Rattle.component.specs.Table.{id_octets, written_code, component_of}
use Rattle.component.specs.inner.Emitting.{coded_octets, head_octets}
use Rattle.component.proofs.Typing.{two_octets, two_at_most}
use Rattle.component.proofs.Putting.{part_length}
use Rattle.component.proofs.Sizes.{same_set, body_of, same_body, sized}

pub id_length : (id : D.Id) → id.count ≤ 2 → length (id_octets id) ≡ id.count
unfolding id_octets
id_length id h = length-take-le id.count (id.first ∷ id.second ∷ []) h

pub code_length : (kind : ℕ) (code : E.Code) → length (written_code kind code) ≡ code_size (coding_of kind)
unfolding written_code
code_length kind code = length-take-le (code_size (coding_of kind)) (code.first ∷ code.second ∷ []) (two_octets kind)

-- an element of at most two octets of contents
module _ (octet count first second : ℕ) (h : count ≤ 2) where
  pub few : element (octet ∷ []) (take count (first ∷ second ∷ [])) ≡ octet ∷ count ∷ take count (first ∷ second ∷ [])
  unfolding element shortest
  few = rw (length-take-le count (first ∷ second ∷ []) h, lt-ltb count 128 (omega arith)) refl

  pub few_size : length (element (octet ∷ []) (take count (first ∷ second ∷ []))) ≡ count + 2
  few_size = omega (arith, ap length few, length-take-le count (first ∷ second ∷ []) h)

-- room for the whole is room for each part
pub head_room : (kind : ℕ) (id : D.Id) (code : E.Code) (body set : ℕ) {room : ℕ} → length (head_octets kind id code body set) ≤ room →
    1 + length (shortest body) + length (element (0xCF ∷ []) (take id.count (id.first ∷ id.second ∷ []))) + length (coded_octets kind code) + 1 + length (shortest set) ≤ room
unfolding head_octets id_octets
head_room kind id code body set h = simp length-append at h

module _ (head s : Octets) (start size : ℕ) (h : start + size ≤ length s) where
  pub parameter : head ++ shortest size ++ take size (drop start s) ≡ element head (take size (drop start s))
  unfolding element
  parameter = rw (part_length s start size h) refl

  pub parameter_room : (at : ℕ) {room : ℕ} → at + length (element head (take size (drop start s))) ≤ room →
      at + length head + length (shortest size) + size ≤ room
  parameter_room at k = omega (arith, simp (length-append, part_length s start size h) at (ap length parameter))

regroup : (k a i o f s p : Octets) → (k ++ a) ++ ((i ++ o) ++ ((f ++ s) ++ p)) ≡ k ++ a ++ i ++ o ++ f ++ s ++ p
regroup k a i o f s p = simp append_assoc

module _ (kind id : ℕ) (ps : List Parameter) (h : octets_needed kind id ps ≤ 4096) where
  pub short_body : body_size kind id (set_size ps) ≤ 4096
  unfolding octets_needed element_size
  short_body = omega arith

  pub short_set : set_size ps ≤ 4096
  unfolding octets_needed body_size element_size
  short_set = omega arith

module _ (kind : ℕ) (id : D.Id) (code : E.Code) (ps : List Parameter) (allowed : Allowed kind id.count) (short : octets_needed kind id.count ps ≤ 4096) where
  pub whole : length (composed (component_of kind id code ps)) ≡ octets_needed kind id.count ps
  unfolding component_of
  whole = (rw (id_length id (two_at_most allowed)) at (sized (component_of kind id code ps) (code_length kind code))) (omega arith)

  set_length : length (set_of ps) ≡ set_size ps
  set_length = same_set ps (omega (arith, short_set kind id.count ps short))

  body_length : length (body_of (component_of kind id code ps)) ≡ body_size kind id.count (set_size ps)
  unfolding component_of
  body_length =
      (rw (id_length id (two_at_most allowed)) at (same_body (component_of kind id code ps) (code_length kind code))) (omega (arith, short_body kind id.count ps short))

  as_element : composed (component_of kind id code ps) ≡ element (kind ∷ []) (body_of (component_of kind id code ps))
  unfolding component_of composed body_of
  as_element = refl

  pub parts : composed (component_of kind id code ps) ≡ head_octets kind id code (body_size kind id.count (set_size ps)) (set_size ps) ++ set_of ps
  unfolding head_octets coded_octets element body_of component_of
  parts =
      as_element ∙ rw (body_length, set_length)
      (regroup (kind ∷ []) (shortest (body_size kind id.count (set_size ps))) (element (0xCF ∷ []) (id_octets id)) (coded_octets kind code)
      (0xF2 ∷ []) (shortest (set_size ps)) (set_of ps))
