-- The entries of a component that stands behind other octets: moved on, they show its parameters there, and they are held by the
-- component's own part of a package's table.
use Prim.Native.Nat.{ℕ, ◌*◌, ◌≤◌}
use mathlib.Core.Path.{◌≡◌, sym, ap, ◌∙◌}
use mathlib.Core.List.{List, ◌++◌, map, append_assoc}
use lib.ListN.{length, take, drop, length-map, take-append-drop}
use lib.Seq.{length-take-le, drop_at}
use native.Mathlib.Omega.{arith}
use Rattle.element.specs.Octets.{Octets}
use Rattle.component.specs.Grammar.{Parameter}
use Rattle.component.specs.Onward.{entry_on}
use Rattle.component.specs.Standing.{Shows, Pairwise}
use Rattle.component.specs.Table.{Entry, width, table_size, table_with, held_from, parameter_of, parameters_from}
use Rattle.component.proofs.Entries.{holds, table_length, table_beside, shown_are}
use Rattle.component.proofs.Refusing.{Rest}
use Rattle.component.proofs.Shown.{shows_on}

all_show_on : {s : Octets} {at : ℕ} {o : Octets} (rest : Octets) → Rest s at (o ++ rest) → {es : List Entry} {ps : List Parameter} →
    Pairwise (Shows o) es ps → Pairwise (Shows s) (map (entry_on at) es) ps
all_show_on {s} {at} {o} rest r k =
    let n : length (take at s) ≡ at = length-take-le at s (omega (arith, r.ends)) in
    let e : take at s ++ o ++ rest ≡ s = append_assoc (take at s) o rest ∙ ap (λ t. take at s ++ t) (sym r.octets) ∙ take-append-drop at s in
    rw (n, e) at (shows_on (take at s) rest k)

-- ---- a component's numbers, the first of a table
module _ (es : List Entry) (few : length es ≤ 64) (t others : List ℕ) (enough : table_size ≤ length t) where
  fits : width * length es ≤ length (take table_size t)
  fits = omega (arith, length-take-le table_size t enough)

  holds_first : held_from 0 (length es) (table_with es (take table_size t) ++ others) ≡ es
  holds_first = rw (table_beside es (take table_size t) fits others) (holds es (take table_size t ++ others))

  pub others_behind : drop table_size (table_with es (take table_size t) ++ others) ≡ others
  others_behind = drop_at (table_with es (take table_size t)) others table_size (table_length es (take table_size t) fits ∙ length-take-le table_size t enough)

-- and the parameters that they stand for in the package are those of the component
pub same_parameters : {o : Octets} {es : List Entry} {ps : List Parameter} → Pairwise (Shows o) es ps → length es ≤ 64 → {s : Octets} {at : ℕ} (rest : Octets) →
    Rest s at (o ++ rest) → (t others : List ℕ) → table_size ≤ length t →
    parameters_from 0 (length es) (table_with (map (entry_on at) es) (take table_size t) ++ others) s ≡ map (parameter_of o) es
unfolding parameters_from
same_parameters {o} {es} shows few {s} {at} rest r t others enough =
    let l = length-map es (entry_on at) in
    rw (← l, holds_first (map (entry_on at) es) (omega arith) t others enough) (shown_are s (all_show_on rest r shows) ∙ sym (shown_are o shows))
