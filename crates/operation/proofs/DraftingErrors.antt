-- The drafting errors that the paper lists, each as what the definitions exclude. The fourth, a length read to the input's end, is
-- `contents_of_the_parent` of component and `behind` of element; the fifth, an unnamed parameter refused, is `untouched` and demand 3.
use Prim.Native.Nat.{ℕ, ◌≤◌}
use mathlib.Core.Path.{◌≡◌, refl}
use mathlib.Core.List.{List}
use native.Mathlib.Omega.{arith}
use Rattle.element.specs.Octets.{Octets}
use Rattle.component.specs.Layout.{Head}
use Rattle.operation.specs.Row.{Row, Item, key}
use Rattle.operation.specs.Judge.{judge}
use Rattle.operation.specs.Items.{item_of}
use Rattle.operation.specs.Codes.{operation_of}
use Rattle.operation.specs.Reading.{operation_in}
use Rattle.operation.proofs.Newcomers.{Grown}
use Rattle.operation.proofs.Untouched.{untouched}

-- treating no octets as absent: the key, by which a parameter occurs, does not hang on its contents
pub no_octets_occur : (number form place start size start' size' : ℕ) →
    (item_of (record { number = number; form = form; place = place; start = start; size = size })).is
    ≡ (item_of (record { number = number; form = form; place = place; start = start'; size = size' })).is
unfolding item_of
no_octets_occur number form place start size start' size' = refl

-- taking a result's operation from its octets, or from the last INVOKE seen: a RESULT has the specifier that is handed in
pub result_asks_the_caller : (s : Octets) (h : Head) (given : ℕ) → h.kind ≡ 0xEA → operation_in s h given ≡ given
unfolding operation_in operation_of
result_asks_the_caller s h given e = rw e

-- comparing only low five bits: two identifiers with one key have one number and one form
pub keys_tell_apart : (number form number' form' : ℕ) → form ≤ 1 → form' ≤ 1 → key number form ≡ key number' form' → (number ≡ number') × (form ≡ form')
unfolding key
keys_tell_apart number form number' form' h k e = (omega arith, omega arith)

-- refusing a parameter because the row does not name it
pub unnamed_is_no_fault : (row : Row) {xs ys : List Item} → Grown row xs ys → judge row ys ≡ judge row xs
unnamed_is_no_fault row {xs} {ys} g = untouched row xs ys g
