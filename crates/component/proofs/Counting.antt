-- The count over the entries against the definition: what is left of it, and its laws: it begins, ends, goes on, stops.
use Prim.Native.Nat.{ℕ, suc, ◌+◌, ◌-◌, ◌<◌, ◌≤◌}
use mathlib.Core.Path.{◌≡◌, refl, sym, ap, ◌∙◌}
use mathlib.Core.Bool.{true, false}
use mathlib.Core.List.{List, ◌∷◌}
use lib.ListN.{length}
use native.Mathlib.Omega.{arith}
use native.Mathlib.Nat.{add-zero, zero-add, sub-zero}
use Rattle.element.specs.Octets.{Octets}
use Rattle.element.specs.Answer.{Answer, accepted, refused, ◌>>=◌}
use Rattle.element.specs.Identifier.{identifier_size}
use Rattle.component.specs.Grammar.{Parameter}
use Rattle.component.specs.Table.{Entry, held, held_from, EntryStands, parameter_of}
use Rattle.component.specs.Composing.{entry_stands, taken_from, entries_from}
use Rattle.component.specs.Needed.{element_size, set_size}
use Rattle.component.specs.inner.Emitting.{sized}
use Rattle.component.proofs.Entries.{stands}
use Rattle.component.proofs.Putting.{part_length}

pub entry_size : {source : Octets} {e : Entry} → EntryStands source e →
    element_size (identifier_size e.number) e.size ≡ element_size (identifier_size (parameter_of source e).number) (length (parameter_of source e).content)
unfolding parameter_of
entry_size {source} {e} s = ap (element_size (identifier_size e.number)) (sym (part_length source e.start e.size s.content))

-- what is left from entry `i` on, where `sum` octets are counted
unfoldable pub left : (count : ℕ) (table : List ℕ) (source : Octets) (i sum : ℕ) → Answer ℕ
left count t source i sum = entries_from i (count - i) t source >>= λ ps. accepted (sum + set_size ps)

plus_zero : (a : Answer (List Parameter)) → sized a ≡ (a >>= λ ps. accepted (0 + set_size ps))
unfolding sized
plus_zero (accepted ps) = simp zero-add
plus_zero (refused n d) = refl

one_more : (sum size : ℕ) (p : Parameter) (a : Answer (List Parameter)) → size ≡ element_size (identifier_size p.number) (length p.content) →
    ◌≡◌ {A = Answer ℕ} (a >>= λ ps. accepted (sum + size + set_size ps)) ((a >>= λ ps. accepted (p ∷ ps)) >>= λ ps. accepted (sum + set_size ps))
unfolding set_size
one_more sum size p (accepted ps) e = ap accepted (omega arith)
one_more sum size p (refused n d) e = refl

module _ (count : ℕ) (t : List ℕ) (source : Octets) where
  pub begins : sized (entries_from 0 count t source) ≡ left count t source 0 0
  unfolding left
  begins = rw sub-zero (plus_zero (entries_from 0 count t source))

  module _ (i sum : ℕ) where
    pub ends : count ≤ i → accepted sum ≡ left count t source i sum
    unfolding left taken_from held_from set_size
    ends h = let e : count - i ≡ 0 = omega arith in rw e (simp add-zero)

    module _ (h : i < count) where
      room : count - i ≡ suc (count - (i + 1))
      room = omega arith

      pub goes_on : {size : ℕ} → entry_stands source (held t i) ≡ true → size ≡ element_size (identifier_size (held t i).number) (held t i).size →
          left count t source (i + 1) (sum + size) ≡ left count t source i sum
      unfolding left taken_from held_from
      goes_on {size} e f =
          rw room (simp e (one_more sum size (parameter_of source (held t i)) (entries_from (i + 1) (count - (i + 1)) t source) (f ∙ entry_size (stands e))))

      pub stops : entry_stands source (held t i) ≡ false → refused 16 i ≡ left count t source i sum
      unfolding left taken_from held_from
      stops e = rw room (simp e)
