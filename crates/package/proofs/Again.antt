-- What was read of a package is written again with every length at its shortest: each component from its part of the
-- table, with the package as source.
use Prim.Native.Nat.{ℕ, suc, ◌+◌, ◌*◌, ◌/◌, ◌%◌, ◌≤◌}
use mathlib.Core.Path.{◌≡◌, refl, sym, ap, ◌∙◌}
use mathlib.Core.List.{List, [], ◌∷◌, ◌++◌, map, append_assoc}
use lib.ListN.{length, take, drop, length-append, length-take, length-drop, take-append-drop}
use lib.Seq.{length-take-le, drop_at}
use borrow.Author.Tests.{le-leb, eq-eqb, ne_eqb}
use native.Mathlib.Decide.{ℕ_discrete}
use native.Mathlib.Nat.{le_trans}
use native.Mathlib.Omega.{arith}
use Rattle.element.specs.Octets.{Octets, AreOctets}
use Rattle.element.specs.Answer.{accepted}
use Rattle.element.specs.Output.{written, output_after}
use Rattle.component.specs.Grammar.{Component, Laid}
use Rattle.component.specs.Composed.{composed}
use Rattle.component.specs.Onward.{entry_on}
use Rattle.component.specs.Table.{Entry, table_size, table_with, held_from, code_of}
use Rattle.component.proofs.Deciding.{ask}
use Rattle.component.proofs.Entries.{table_length, table_beside, as_many}
use Rattle.component.proofs.Parts.{octets_before}
use Rattle.component.proofs.Refusing.{Rest, behind, at_octets}
use Rattle.component.proofs.Shown.{shows_on}
use Rattle.operation.specs.Caller as O
use Rattle.operation.specs.Codes.{told_code}
use Rattle.operation.specs.Demands.{puts}
use Rattle.operation.specs.Model.{written_as}
use Rattle.operation.proofs.Again.{composes_again, same_or_shorter}
use Rattle.operation.proofs.Model.{told_of_lem, demand2_ours}
use Rattle.package.specs.Grammar.{Package, Sequence}
use Rattle.package.specs.Caller.{Order}
use Rattle.package.specs.Reading.{carries}
use Rattle.package.specs.Writing.{code_for, order_of, write_each, carried_as, package_octets, laid_down, package_writing}
use Rattle.package.specs.Demands.{alone, AllAccepted, AllCarried, first_place, Right, inside_from, tells, tables_from, LaidAll, handed_part, handed, WrittenAgain}
use Rattle.package.specs.Model.{reader, writer}
use Rattle.package.proofs.Steps.{known, is_few}
use Rattle.package.proofs.Standing.{components_stand, ids_again}
use Rattle.package.proofs.Components.{zeros}
use Rattle.package.proofs.Reader.{reader_accepts}
use Rattle.package.proofs.Shortened.{package_shorter}

-- the code of a RESULT is the specifier already
same_code : (kind : ℕ) (code : Octets) (given : ℕ) → code_for kind (code_of (told_code kind code given)) given ≡ code_of (told_code kind code given)
unfolding code_for told_code code_of
same_code kind code given = ask (ℕ_discrete kind 0xEA) (λ e. rw e refl) λ n. rw (ne_eqb kind 0xEA n) refl

-- the entries of a component that stands at `at`
abbrev entries_in : (at : ℕ) → Octets → (given : ℕ) → O.Told → List Entry
entries_in at o given x = map (entry_on at) (held_from 0 x.all (alone o given).table)

-- ---- each component, by the part of the table that is its own
module _ (s : Octets) (octets : AreOctets s) where
  one_again : {at : ℕ} {o : Octets} (rest : Octets) → Rest s at (o ++ rest) → (given : ℕ) {x : O.Told} {c : Component} → (alone o given).answer ≡ accepted x → Laid c o →
      (length (entries_in at o given x) ≤ 64)
      × ((t : List ℕ) → written_as (order_of (handed_part (record { place = at; told = x })) given (table_with (entries_in at o given x) t) s) 4096 ≡ accepted (composed c))
  one_again {at} {o} rest r given {c = c} e h =
      let b = octets_before o rest (at_octets s r octets) in
      let (row, k, p) = told_of_lem o b given zeros e h in
      let n : length (take at s) ≡ at = length-take-le at s (omega (arith, r.ends)) in
      let q : take at s ++ o ++ rest ≡ s = append_assoc (take at s) o rest ∙ ap (λ u. take at s ++ u) (sym r.octets) ∙ take-append-drop at s in
      let shows = rw (q, n) at (shows_on (take at s) rest (demand2_ours.placed o given zeros b k)) in
      rw (← p, same_code c.kind c.code given)
      (omega (arith, as_many shows, k.laid_out.few), λ t. composes_again k shows t 4096 k.laid_out.within)

  all_again : {at specifiers : ℕ} {os : List Octets} {v : Octets} {xs : List O.Told} {cs : List Component} → Sequence os v → Rest s at v → AllAccepted os specifiers xs →
      LaidAll os cs → (t : List ℕ) → table_size * length os ≤ length t →
      write_each (map handed_part (inside_from at os xs)) specifiers (tables_from at os xs specifiers t) s ≡ accepted (map composed cs)
  unfolding write_each inside_from tables_from
  all_again Sequence.none r AllAccepted.none LaidAll.none t k = refl
  all_again {at} {specifiers} (Sequence.more {o = o} {rest} {os} w q) r (AllAccepted.more {x = x} {xs} e a) (LaidAll.more h l) t k =
      let es = entries_in at o (specifiers % 256) x in
      let own = take table_size t in
      let others = tables_from (at + length o) os xs (specifiers / 256) (drop table_size t) in
      let (few, again) = one_again rest r (specifiers % 256) e h in
      let size = length-take-le table_size t (omega arith) in
      let beside = table_beside es own (omega arith) others in
      rw (
        beside,
        again (own ++ others),
        ← beside,
        drop_at (table_with es own) others table_size (table_length es own (omega arith) ∙ size),
        all_again {at = at + length o} q (behind s o r) a l (drop table_size t) (omega (arith, length-drop table_size t)),
      )

-- ---- what else is asked of what is handed on
as_many_parts : (at : ℕ) {os : List Octets} {specifiers : ℕ} {xs : List O.Told} → AllAccepted os specifiers xs → length (map handed_part (inside_from at os xs)) ≡ length os
unfolding inside_from
as_many_parts at AllAccepted.none = refl
as_many_parts at (AllAccepted.more {o} e a) = ap suc (as_many_parts (at + length o) a)

carried_again : {packet : ℕ} (i at : ℕ) {os : List Octets} {specifiers : ℕ} {xs : List O.Told} → AllAccepted os specifiers xs → AllCarried packet xs specifiers →
    carried_as packet i (map handed_part (inside_from at os xs)) specifiers ≡ accepted tt
unfolding carried_as carries inside_from
carried_again i at AllAccepted.none AllCarried.none = refl
carried_again {packet} i at (AllAccepted.more {o} e a) (AllCarried.more c k) = rw (eq-eqb _ packet c, carried_again (i + 1) (at + length o) a k)

as_long : (at : ℕ) (os : List Octets) (xs : List O.Told) (specifiers : ℕ) (t : List ℕ) → length t ≤ length (tables_from at os xs specifiers t)
unfolding tables_from table_with
as_long at [] xs specifiers t = omega arith
as_long at (o ∷ os) [] specifiers t = omega arith
as_long at (o ∷ os) (x ∷ xs) specifiers t =
    simp (length-append, length-drop, length-take) (omega (arith, length-drop table_size t, as_long (at + length o) os xs (specifiers / 256) (drop table_size t)))

module _ (s : Octets) (specifiers : ℕ) (t : List ℕ) (out : Octets) {p : Package} {xs : List O.Told} {cs : List Component} (o : AreOctets s) (h : Right s specifiers t p xs)
    (l : LaidAll p.components cs) (room : length s ≤ length out) where
  abbrev given_back : Order
  given_back = handed (tells h.laid_out.packaged xs) specifiers (reader s specifiers t).table s

  abbrev made : Octets
  made = package_octets p.kind p.ids (map composed cs)

  writes : package_writing given_back (length out) ≡ accepted made
  unfolding package_writing laid_down
  writes =
      let g = h.laid_out.packaged in
      let at = first_place g in
      let enough = h.laid_out.enough in
      let few = h.few in
      let short = (package_shorter g l).never_longer in
      rw (
        ap (λ r. r.table) (reader_accepts s specifiers t h),
        le-leb _ _ (le_trans enough (as_long at p.components xs specifiers t)),
        known g.typed,
        ids_again g,
        eq-eqb _ _ g.sized,
        as_many_parts at h.accepted,
        is_few few,
        all_again s o g.components (components_stand g) h.accepted l t (omega arith),
        carried_again 0 at h.accepted h.carried,
        le-leb _ _ (le_trans short h.laid_out.within),
        le-leb _ _ (le_trans short room),
      )

  pub reads_then_writes : WrittenAgain h.laid_out.packaged l out (writer given_back out)
  unfolding written output_after
  reads_then_writes =
      let z : writer given_back out ≡ puts made out = rw writes in
      let (same, only) = same_or_shorter (package_shorter h.laid_out.packaged l) out z in
      record { composes = z; same = same; only = only }
