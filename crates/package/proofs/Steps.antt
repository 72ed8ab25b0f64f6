-- The steps of a package's layout: the tests of its type, and an element with a fault is refused by 22, at its detail.
use Prim.Native.Nat.{ℕ, ◌+◌}
use mathlib.Core.Path.{◌≡◌, refl}
use mathlib.Core.Bool.{true, false}
use lib.ListN.{length}
use Rattle.element.specs.Octets.{Octets, AreOctets}
use Rattle.element.specs.Answer.{refused}
use Rattle.component.specs.Layout.{contents, wanted}
use Rattle.component.specs.Faults.{component, Unheld, no_field, overrun, Unfound, ended, other}
use Rattle.component.proofs.Typing.{within, not_within}
use Rattle.component.proofs.Refusing.{Rest, contents_refused, wanted_refused}
use Rattle.package.specs.Types.{U, CWO, PackageType, package_type}
use Rattle.package.specs.Faults.{layout}
use Rattle.package.specs.Layout.{layout_fault}
use Rattle.package.specs.Reading.{few}
use Rattle.package.specs.Demands.{Few}

module _ {kind : ℕ} where
  pub known : PackageType kind → package_type kind ≡ true
  unfolding package_type
  known (h, k) = within U kind CWO h k

  pub unknown : (PackageType kind → ⊥) → package_type kind ≡ false
  unfolding package_type
  unknown n = not_within U kind CWO n

module _ {count : ℕ} where
  pub is_few : Few count → few count ≡ true
  unfolding few
  is_few (h, k) = within 1 count 8 h k

  pub not_few : (Few count → ⊥) → few count ≡ false
  unfolding few
  not_few n = not_within 1 count 8 n

-- ---- a fault under the package's number is one under the component's numbers, with the same detail
pub renumbered : {head t : Octets} {at n d : ℕ} → Unheld layout head at t n d → (n ≡ 22) × (m : ℕ) × Unheld component head at t m d
renumbered (no_field s h) = (refl, component.field, no_field s h)
renumbered (overrun rest f h) = (refl, component.extent, overrun rest f h)

pub renumbered_too : {octet at n d : ℕ} {t : Octets} → Unfound layout octet 22 at t n d → (n ≡ 22) × (m : ℕ) × Unfound component octet 22 at t m d
renumbered_too ended = (refl, component.end, ended)
renumbered_too (other h) = (refl, 22, other h)
renumbered_too (Unfound.unheld f) = let (e, m, g) = renumbered f in (e, m, Unfound.unheld g)

module _ (s : Octets) (o : AreOctets s) where
  pub contents_faulty : {head t : Octets} {at n d : ℕ} → Unheld layout head at t n d → Rest s at t →
      layout_fault (contents s at (at + length head) (length s)) ≡ refused n d
  contents_faulty f r = let (e, m, g) = renumbered f in rw (contents_refused s o g r, e)

  pub wanted_faulty : {octet at n d : ℕ} {t : Octets} → Unfound layout octet 22 at t n d → Rest s at t →
      layout_fault (wanted s octet 22 at (length s)) ≡ refused n d
  wanted_faulty f r = let (e, m, g) = renumbered_too f in rw (wanted_refused s o g r, e)
