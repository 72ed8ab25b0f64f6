-- What is composed of a component is never longer than what lays it out; it is as long only where each length field of
-- the layout is the shortest, and there it is the same.
use Prim.Native.Nat.{◌≤◌}
use mathlib.Core.Path.{◌≡◌, refl}
use mathlib.Core.List.{List, [], ◌++◌}
use lib.ListN.{length, length-append}
use native.Mathlib.Omega.{arith}
use Rattle.element.specs.Octets.{Octets}
use Rattle.element.specs.Length.{shortest}
use Rattle.element.specs.Identifier.{only}
use Rattle.element.proofs.LengthLaws.{least, exact}
use Rattle.component.specs.Types.{Coding}
use Rattle.component.specs.Grammar.{Parameter, Element, laid, Parameters, none, more, Component, Coded, absent, present, Laid}
use Rattle.component.specs.Composed.{element, set_of, code_element, composed}
use Rattle.component.specs.Shortest.{ShortestLength, ShortestLengths, ShortestCode, Shortest}

pub record Shorter (made s : Octets) (P : Type 0) : Type 0 where
  pub never_longer : length made ≤ length s
  pub as_long : length s ≤ length made → P
  pub same : P → s ≡ made

pub itself : (s : Octets) → Shorter s s Unit
itself s = record { never_longer = omega arith; as_long = λ _. tt; same = λ _. refl }

pub beside : {a b s t : Octets} {P Q : Type 0} → Shorter a s P → Shorter b t Q → Shorter (a ++ b) (s ++ t) (P × Q)
beside {a} {b} {s} {t} p q =
    let k = length-append a b in
    let l = length-append s t in
    record {
      never_longer = omega (arith, p.never_longer, q.never_longer);
      as_long = λ h. (p.as_long (omega (arith, q.never_longer)), q.as_long (omega (arith, p.never_longer)));
      same = λ (x, y). rw (p.same x, q.same y);
    }

-- an element, whose contents may be shorter too
pub element_shorter : {head body inner s : Octets} {P : Type 0} (w : Element head body s) → Shorter inner body P → Shorter (element head inner) s (ShortestLength w × P)
unfolding element ShortestLength
element_shorter {head} {body} {inner} (laid field f) p =
    let k = length-append head (shortest (length inner)) in
    let l = length-append (head ++ shortest (length inner)) inner in
    let m = length-append head field in
    let n = length-append (head ++ field) body in
    let few = least f p.never_longer in
    record {
      never_longer = omega (arith, p.never_longer);
      as_long = λ h.
          let e : length inner ≡ length body = omega (arith, p.never_longer) in
          (exact f (rw (← e) (omega arith)), p.as_long (omega arith));
      same = λ (q, x). rw (q, p.same x);
    }

-- the same, said otherwise
pub put_so : {made s : Octets} {P Q : Type 0} → (P → Q) → (Q → P) → Shorter made s P → Shorter made s Q
put_so f g p = record { never_longer = p.never_longer; as_long = λ l. f (p.as_long l); same = λ q. p.same (g q) }

set_shorter : {ps : List Parameter} {s : Octets} (r : Parameters ps s) → Shorter (set_of ps) s (ShortestLengths r)
unfolding set_of ShortestLengths
set_shorter none = itself []
set_shorter (more p (only number form h k) w r) = put_so (λ ((l, _), ls). (l, ls)) (λ (l, ls). ((l, tt), ls)) (beside (element_shorter w (itself p.content)) (set_shorter r))

code_shorter : {coding : Coding} {code s : Octets} (e : Coded coding code s) → Shorter (code_element coding code) s (ShortestCode e)
unfolding code_element ShortestCode
code_shorter absent = itself []
code_shorter (present e w) = put_so (λ (l, _). l) (λ l. (l, tt)) (element_shorter w (itself _))

pub shorter : {c : Component} {s : Octets} (x : Laid c s) → Shorter (composed c) s (Shortest x)
unfolding composed
shorter {c} x =
    put_so
    (λ (w, (((i, _), e), (f, r))). record { id = i; code = e; parameters = r; set = f; whole = w })
    (λ h. (h.whole, (((h.id, tt), h.code), (h.set, h.parameters))))
    (element_shorter x.whole
    (beside (beside (element_shorter x.identified (itself c.id)) (code_shorter x.encoded))
    (element_shorter x.collected (set_shorter x.parameters))))
