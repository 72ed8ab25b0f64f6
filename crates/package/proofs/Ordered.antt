-- The components of an order: each is written as the component writer writes it alone. What the package carries of them, and
-- what is refused.
use Prim.Native.Nat.{ℕ, ◌+◌, ◌/◌, ◌%◌}
use mathlib.Core.Path.{◌≡◌, refl, sym, ap}
use mathlib.Core.List.{List, [], ◌∷◌}
use mathlib.Core.Logic.{◌⊎◌, inl, inr, ⊎_elim}
use lib.ListN.{length, take, drop, replicate}
use lib.Seq.{take_at}
use borrow.Author.Tests.{eq-eqb, ne_eqb}
use native.Mathlib.Decide.{ℕ_discrete}
use native.Mathlib.Omega.{arith}
use Rattle.element.specs.Octets.{Octets}
use Rattle.element.specs.Answer.{Answer, accepted, refused, ◌>>=◌}
use Rattle.element.specs.Output.{written, output_after}
use Rattle.component.specs.Table.{table_size}
use Rattle.component.proofs.Deciding.{Decided, fine, fault, then, ask}
use Rattle.component.proofs.Taken.{stopped}
use Rattle.operation.specs.Codes.{operation_of}
use Rattle.package.specs.Caller.{Part}
use Rattle.package.specs.Carriage.{carrier}
use Rattle.package.specs.Reading.{carries}
use Rattle.package.specs.Writing.{write_each, carried_as}
use Rattle.package.specs.Demands.{written_alone, AllWritten, OneUnwritten, PartsCarried, PartUncarried}

-- ---- what a writer leaves in front of an output is what it writes
pub left_in_front : (a : Answer Octets) (out : Octets) {n : ℕ} → written a ≡ accepted n → a ≡ accepted (take n (output_after out a))
unfolding written output_after
left_in_front (accepted s) out {n} e = let l : length s ≡ n = cc in ap (λ s. accepted s) (sym (take_at s (drop (length s) out) n l))
left_in_front (refused m d) out e = let z : ◌≡◌ {A = ℕ} 0 1 = cc in absurd (omega arith)

goes_no_further : (a : Answer Octets) (f : Octets → Answer (List Octets)) {n d : ℕ} → written a ≡ refused n d → (a >>= f) ≡ refused n d
unfolding written
goes_no_further a f e = stopped a length f e

in_turn : {a : Answer Octets} {b r : Answer (List Octets)} {o : Octets} → a ≡ accepted o → b ≡ r →
    (a >>= λ o. b >>= λ os. accepted (o ∷ os)) ≡ (r >>= λ os. accepted (o ∷ os))
in_turn e f = rw (e, f)

module _ (source : Octets) where
  pub all_written : {cs : List Part} {specifiers : ℕ} {table : List ℕ} {os : List Octets} → AllWritten source cs specifiers table os →
      write_each cs specifiers table source ≡ accepted os
  unfolding write_each
  all_written AllWritten.none = refl
  all_written (AllWritten.more e k) = in_turn (left_in_front _ (replicate 4096 0) e) (all_written k)

  pub one_unwritten : {cs : List Part} {specifiers : ℕ} {table : List ℕ} {n d : ℕ} → OneUnwritten source cs specifiers table n d →
      write_each cs specifiers table source ≡ refused n d
  unfolding write_each
  one_unwritten (OneUnwritten.here e) = goes_no_further _ _ e
  one_unwritten (OneUnwritten.later e k) = in_turn (left_in_front _ (replicate 4096 0) e) (one_unwritten k)

  -- one of the two holds of all
  pub written_or_not : (cs : List Part) (specifiers : ℕ) (table : List ℕ) →
      Decided ((os : List Octets) × AllWritten source cs specifiers table os) (OneUnwritten source cs specifiers table)
  written_or_not [] specifiers table = fine ([], AllWritten.none)
  written_or_not (c ∷ cs) specifiers table = go (written_alone c (specifiers % 256) table source).answer refl (written_or_not cs (specifiers / 256) (drop table_size table))
    where
      go : (a : Answer ℕ) → (written_alone c (specifiers % 256) table source).answer ≡ a →
          Decided ((os : List Octets) × AllWritten source cs (specifiers / 256) (drop table_size table) os) (OneUnwritten source cs (specifiers / 256) (drop table_size table)) →
          Decided ((os : List Octets) × AllWritten source (c ∷ cs) specifiers table os) (OneUnwritten source (c ∷ cs) specifiers table)
      go (accepted n) e rest = then rest (λ n d f. OneUnwritten.later e f) λ (os, k). fine (_, AllWritten.more e k)
      go (refused n d) e rest = fault (OneUnwritten.here e)

-- ---- what the package carries of them, the first of which is component `i`
module _ (packet : ℕ) where
  pub parts_carried : (i : ℕ) {cs : List Part} {specifiers : ℕ} → PartsCarried packet cs specifiers → carried_as packet i cs specifiers ≡ accepted tt
  unfolding carried_as carries
  parts_carried i PartsCarried.none = refl
  parts_carried i (PartsCarried.more c k) = rw (eq-eqb _ packet c, parts_carried (i + 1) k)

  pub part_uncarried : {i : ℕ} {cs : List Part} {specifiers d : ℕ} → PartUncarried packet i cs specifiers d → carried_as packet i cs specifiers ≡ refused 24 d
  unfolding carried_as carries
  part_uncarried (PartUncarried.here n) = rw (ne_eqb _ packet n)
  part_uncarried (PartUncarried.later c k) = rw (eq-eqb _ packet c, part_uncarried k)

  pub carried_or_not : (i : ℕ) (cs : List Part) (specifiers : ℕ) → PartsCarried packet cs specifiers ⊎ ((d : ℕ) × PartUncarried packet i cs specifiers d)
  carried_or_not i [] specifiers = inl PartsCarried.none
  carried_or_not i (c ∷ cs) specifiers =
      ask (ℕ_discrete (carrier c.kind (operation_of c.kind c.code.first (specifiers % 256))) packet)
      (λ h. ⊎_elim (λ f. inl (PartsCarried.more h f)) (λ (d, f). inr (d, PartUncarried.later h f)) (carried_or_not (i + 1) cs (specifiers / 256)))
      (λ n. inr (i, PartUncarried.here n))
