-- Every octet string is a package laid out or has a fault of the layout: decided from left to right, over what is left.
use Prim.Native.Nat.{ℕ, zero, suc, ◌+◌, ◌≤◌}
use mathlib.Core.Path.{refl, ap}
use mathlib.Core.List.{List, [], ◌∷◌}
use lib.ListN.{length, length-append}
use native.Mathlib.Decide.{ℕ_discrete}
use native.Mathlib.Omega.{arith}
use Rattle.element.specs.Octets.{Octets, AreOctets}
use Rattle.component.specs.Grammar.{Element, laid}
use Rattle.component.proofs.Complete.{longer}
use Rattle.component.proofs.Deciding.{Decided, fine, fault, then, ask, dec_between, behind, hold, find, fill}
use Rattle.package.specs.Types.{U, CWO, PackageType, id_size}
use Rattle.package.specs.Grammar.{Package, Sequence, none, more, Packaged}
use Rattle.package.specs.Faults.{layout, InSequence, NoSequence, NoIds, Unpackaged}

components : (most at : ℕ) (t : Octets) → length t ≤ most → AreOctets t → Decided ((os : List Octets) × Sequence os t) (InSequence at t)
components zero at [] l o = fine ([], none)
components zero at (a ∷ t) l o = absurd (omega arith)
components (suc most) at [] l o = fine ([], none)
components (suc most) at (a ∷ t) l o =
    then (hold layout (a ∷ []) at t (behind o (a ∷ []) t refl)) (λ n d f. InSequence.unheld f) λ h.
    let p = h.is in
    let k = length-append h.e h.rest in
    then (components most (at + length h.e) h.rest (omega (arith, ap length p, longer h.element)) (behind o h.e h.rest p))
    (λ n d f. rw p (InSequence.later h.element f)) λ (os, q).
    fine (h.e ∷ os, rw p (more h.element q))

-- ---- the component sequence, which ends where its parent ends
record Closed (t : Octets) : Type 0 where
  os : List Octets
  contents : Octets
  components : Sequence os contents
  element : Element (0xE8 ∷ []) contents t

sequence_at_lem : (at : ℕ) (t : Octets) → AreOctets t → Decided (Closed t) (NoSequence at t)
sequence_at_lem at t o =
    then (find layout 0xE8 22 at t o) (λ n d f. NoSequence.unfound f) λ h.
    then (fill layout at h) (λ n d f. NoSequence.left_over f) λ w.
    let q = w.is in
    let b = w.body in
    then (components (length b) (at + (1 + length w.field)) b (omega arith) (behind o (0xE8 ∷ w.field) b q)) (λ n d f. rw q (NoSequence.inside w.sized f)) λ (os, r).
    fine (record { os = os; contents = b; components = r; element = rw q (laid w.field w.sized) })

-- ---- the transaction IDs, and what stands behind them
record Bodied (kind : ℕ) (t : Octets) : Type 0 where
  p : Package
  lays : (s : Octets) → Element (kind ∷ []) t s → Packaged p s

ids_at_lem : (kind at : ℕ) (t : Octets) → PackageType kind → AreOctets t → Decided (Bodied kind t) (NoIds kind at t)
ids_at_lem kind at t typed o =
    then (find layout 0xC7 22 at t o) (λ n d f. NoIds.unfound f) λ h.
    let q = h.is in
    ask (ℕ_discrete (length h.body) (id_size kind)) (λ size.
    then (sequence_at_lem (at + length h.e) h.rest (behind o h.e h.rest q)) (λ n d f. rw q (NoIds.behind h.element size f)) λ c.
    fine (record {
      p = record { kind = kind; ids = h.body; components = c.os };
      lays = λ s w. record {
        ids = h.e;
        sequence = h.rest;
        contents = c.contents;
        typed = typed;
        sized = size;
        identified = h.element;
        components = c.components;
        sequenced = c.element;
        whole = rw q at w;
      };
    }))
    (λ n. rw q (fault (NoIds.sized h.rest h.element n)))

-- ---- the package
pub decide : (s : Octets) → AreOctets s → 1 ≤ length s → Decided ((p : Package) × Packaged p s) (Unpackaged s)
decide [] o some = absurd (omega arith)
decide (a ∷ s) o some =
    ask (dec_between U a CWO) (λ typed.
    then (hold layout (a ∷ []) 0 s (behind o (a ∷ []) s refl)) (λ n d f. Unpackaged.unheld typed f) λ h.
    then (fill layout 0 h) (λ n d f. Unpackaged.left_over typed f) λ w.
    let q = w.is in
    then (ids_at_lem a (1 + length w.field) w.body typed (behind o (a ∷ w.field) w.body q)) (λ n d f. rw q (Unpackaged.inside typed w.sized f)) λ b.
    fine (b.p, b.lays (a ∷ s) (rw q (laid w.field w.sized))))
    (λ n. fault (Unpackaged.untyped n))
