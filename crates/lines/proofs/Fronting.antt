-- Of a field the first 4,097 octets say all, where what is listed has items over 4,096 octets that are all alike, as
-- components and packages are, which are refused with 2; and a longer specifier field changes nothing.
use Rattle.std.proofs.Common.{◌≡◌, ℕ, ◌<◌, ◌≤◌, Bool, true, false, leb, List, length, take, sym, refl, arith, length-take-le, take_all, lt-ltb, ne_eqb, leb-false, leb-true}
use mathlib.Core.Bool.{and-false}
use borrow.Author.Tests.{lt-leb}
use Rattle.element.specs.Octets.{Octets}
use Rattle.element.specs.Answer.{refused, ◌>>◌, check}
use Rattle.operation.proofs.Readings.{too_long}
use Rattle.package.specs.Reading.{tables_size, package_reading}
use Rattle.lines.specs.declared.Kept as K
use Rattle.lines.specs.Listing.{Subject, components, Tagged, tagged, after, lines_for}
use Rattle.lines.specs.Packages.{eight_of, packages}

abbrev pub SaysAsMuch : Subject → (s u : Octets) → Type 0
SaysAsMuch x s u =
    ((item specifier room : ℕ) → x.lines item specifier room s ≡ x.lines item specifier room u)
    × ((specifier : ℕ) (table : List ℕ) → x.left specifier s table ≡ x.left specifier u table)

abbrev pub Alike : Subject → Type 0
Alike x = (s u : Octets) → 4096 < length s → 4096 < length u → SaysAsMuch x s u

pub components_alike : Alike components
components_alike s u h k = (
  λ item specifier room. simp (too_long s specifier room h, too_long u specifier room k),
  λ specifier table. simp (too_long s specifier (length table) h, too_long u specifier (length table) k),
)

package_too_long : (s : Octets) (specifiers room : ℕ) → 4096 < length s → package_reading s specifiers room ≡ check (leb tables_size room) 1 0 >> refused 2 0
unfolding package_reading
package_too_long s specifiers room h = simp (lt-ltb 0 (length s) (omega arith), lt-leb (length s) 4096 h)

pub packages_alike : Alike packages
packages_alike s u h k = (
  λ item specifier room. simp (package_too_long s (eight_of specifier) room h, package_too_long u (eight_of specifier) room k),
  λ specifier table. simp (package_too_long s (eight_of specifier) (length table) h, package_too_long u (eight_of specifier) (length table) k),
)

module _ (x : Subject) (alike : Alike x) (room : ℕ) (kept : K.Kept) (f : Tagged) (keep : ℕ) (enough : 4097 ≤ keep) where
  abbrev front : Tagged
  front = tagged f.tag (take keep f.contents)

  abbrev Says-all : Type 0
  Says-all =
      (lines_for x room kept front ≡ lines_for x room kept f) × (after x.tag kept front ≡ after x.tag kept f)
      × SaysAsMuch x front.contents f.contents

  module _ (h : keep < length f.contents) where
    long : keep ≡ length (take keep f.contents)
    long = sym (length-take-le keep f.contents (omega arith))

    changes_as_much : after x.tag kept front ≡ after x.tag kept f
    unfolding after
    changes_as_much =
        simp (ne_eqb (length (take keep f.contents)) 1 (λ e. omega (arith, long, e)), ne_eqb (length f.contents) 1 (λ e. omega (arith, e)), and-false)

    reads_so : SaysAsMuch x front.contents f.contents
    reads_so = alike front.contents f.contents (omega (arith, long)) (omega arith)

    same_lines : lines_for x room kept front ≡ lines_for x room kept f
    unfolding lines_for
    same_lines = simp (changes_as_much, reads_so.0 (after x.tag kept f).item kept.specifier room)

  by_size : (b : Bool) → leb (length f.contents) keep ≡ b → Says-all
  by_size true e = rw (take_all keep f.contents (leb-true _ _ e)) (refl, refl, (λ _ _ _. refl, λ _ _. refl))
  by_size false e = let h = leb-false (length f.contents) keep e in (same_lines h, changes_as_much h, reads_so h)

  pub front_says_all : Says-all
  front_says_all = by_size (leb (length f.contents) keep) refl
