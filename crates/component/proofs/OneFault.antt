-- Every octet string is laid out within the limits or has exactly one fault, and the layout says which.
use Prim.Native.Nat.{ℕ}
use mathlib.Core.Path.{◌≡◌}
use mathlib.Core.Logic.{◌↔◌}
use native.Mathlib.Omega.{arith}
use Rattle.element.specs.Octets.{Octets, AreOctets}
use Rattle.element.specs.Answer.{accepted, refused}
use Rattle.component.specs.Layout.{Layout, layout_of}
use Rattle.component.specs.Grammar.{Component}
use Rattle.component.specs.Faults.{Faulty, LaidOut}
use Rattle.component.proofs.Complete.{Reads, complete}
use Rattle.component.proofs.Refusing.{refuses}
use Rattle.component.proofs.Deciding.{Outcome, fine, fault, decide}

module _ (s : Octets) (o : AreOctets s) where
  -- what is accepted is laid out, and where its parts stand is what is shown
  pub laid_out : {l : Layout} → layout_of s ≡ accepted l → (c : Component) × (h : LaidOut c s) × Reads h.laid l
  laid_out {l} e = go (decide s o)
    where
      go : Outcome s → (c : Component) × (h : LaidOut c s) × Reads h.laid l
      go (fine (c, h)) =
          let (m, f, r) = complete h.laid h.within h.few in
          let p : m ≡ l = cc in
          (c, h, rw p at r)
      go (fault f) = let g = refuses o f in let z : ◌≡◌ {A = ℕ} 0 1 = cc in absurd (omega arith)

  -- what is refused has the fault that is said
  pub faulty : {n d : ℕ} → layout_of s ≡ refused n d → Faulty n d s
  faulty {n} {d} e = go (decide s o)
    where
      go : Outcome s → Faulty n d s
      go (fine (c, h)) = let (m, f, _) = complete h.laid h.within h.few in let z : ◌≡◌ {A = ℕ} 0 1 = cc in absurd (omega arith)
      go (fault {n = m} {d = c} f) =
          let g = refuses o f in
          let p : m ≡ n = cc in
          let q : c ≡ d = cc in
          rw (p, q) at f

  pub refused_faulty : {n d : ℕ} → (layout_of s ≡ refused n d) ↔ Faulty n d s
  refused_faulty = (faulty, refuses o)

  pub one_fault : {n d m c : ℕ} → Faulty n d s → Faulty m c s → (n ≡ m) × (d ≡ c)
  one_fault f g =
      let e = refuses o f in
      let h = refuses o g in
      (cc, cc)

  pub not_both : {c : Component} → LaidOut c s → {n d : ℕ} → Faulty n d s → ⊥
  not_both l f =
      let (x, e, _) = complete l.laid l.within l.few in
      let h = refuses o f in
      let z : ◌≡◌ {A = ℕ} 0 1 = cc in
      omega arith
