-- A component that the component writer wrote alone is read again alone, and from where it stands in a package.
use Prim.Native.Nat.{ℕ, suc, ◌+◌, ◌*◌, ◌/◌, ◌%◌, ◌≤◌}
use mathlib.Core.Path.{◌≡◌, refl, sym, ap, subst, ◌∙◌}
use mathlib.Core.List.{List, [], ◌∷◌, ◌++◌, map, flatten}
use lib.ListN.{length, take, drop, replicate, length-map, length-drop, length-replicate, get_or-append, get_or-eq_default}
use borrow.Author.Tests.{eq-eqb, ne_eqb}
use native.Mathlib.Decide.{dec_lt, ℕ_discrete}
use native.Mathlib.Omega.{arith}
use Rattle.element.specs.Octets.{Octets, AreOctets}
use Rattle.element.specs.Answer.{accepted}
use Rattle.component.specs.declared.Code as E
use Rattle.component.specs.Faults.{LaidOut}
use Rattle.component.specs.Grammar.{Component}
use Rattle.component.specs.Onward.{entry_on}
use Rattle.component.specs.Standing.{Shows, Pairwise}
use Rattle.component.specs.Table.{Entry, table_size, table_with, held_from, parameter_of, parameters_from}
use Rattle.component.proofs.Deciding.{ask, behind}
use Rattle.component.proofs.Entries.{as_many}
use Rattle.component.proofs.Refusing.{Rest}
use Rattle.component.proofs.Refusing as R
use Rattle.operation.specs.Caller as O
use Rattle.operation.specs.Codes.{operation_of, heeded}
use Rattle.operation.specs.Demands.{ReadAgain}
use Rattle.operation.specs.Model.{reader, writer}
use Rattle.operation.proofs.Again.{inner}
use Rattle.operation.proofs.Model.{counted, demand2_ours}
use Rattle.package.specs.Caller.{Part}
use Rattle.package.specs.Grammar.{Sequence}
use Rattle.package.specs.Writing.{code_for, order_of}
use Rattle.package.specs.Demands.{written_alone, AllWritten, PartsCarried, AllAccepted, AllCarried, inside_from, tables_from, PartAgain, PartsAgain}
use Rattle.package.proofs.Given.{same_reading}
use Rattle.package.proofs.MovedOn.{others_behind, same_parameters}

held_count : (n : ℕ) (t : List ℕ) → length (held_from 0 n t) ≡ n
unfolding parameters_from
held_count n t = sym (length-map (held_from 0 n t) (parameter_of [])) ∙ counted 0 n t []

-- ---- one component, read alone with the table `z`: the entries show its parameters
accepted_shows : (z : List ℕ) (given : ℕ) (o : Octets) → AreOctets o → {x : O.Told} → (reader o given z).answer ≡ accepted x →
    (c : Component) × LaidOut c o × Pairwise (Shows o) (held_from 0 x.all (reader o given z).table) c.parameters
accepted_shows z given o b e =
    let (c, row, h) = demand2_ours.reader o given z b e in
    let k = ap (λ x. x.all) (inner (ap (λ y. y.answer) (sym (demand2_ours.shown o given z b h)) ∙ e)) in
    (c, h.laid_out, rw k at (demand2_ours.placed o given z b h))

-- and what is ordered is told of its octets
module _ (z : List ℕ) (c : Part) (given : ℕ) (table : List ℕ) (source : Octets) where
  pub record Returned (o : Octets) (x : O.Told) : Type 0 where
    pub component : Component
    pub laid_out : LaidOut component o
    pub accepts : (reader o given z).answer ≡ accepted x
    pub shows : Pairwise (Shows o) (held_from 0 x.all (reader o given z).table) component.parameters
    pub again : PartAgain c given table source x (reader o given z).table o

  read_alone : (o : Octets) → AreOctets o → (r : ReadAgain reader (order_of c given table source) o z) → Returned o r.told
  unfolding code_for
  read_alone o b r =
      let q = same_reading o b z {b = given} r.accepts (λ k. rw (eq-eqb c.kind 0xEA (cc))) in
      let a = ap (λ y. y.answer) (sym q) ∙ r.accepts in
      let (d, l, s) = accepted_shows z given o b a in
      record {
        component = d;
        laid_out = l;
        accepts = a;
        shows = s;
        again =
            subst (λ y. PartAgain c given table source r.told y.table o) q
            (record { kind = r.kind; id = r.id; code = r.code; count = r.count; parameters = r.parameters });
      }

  returned : (out : Octets) {n : ℕ} → (writer (order_of c given table source) out).answer ≡ accepted n → table_size ≤ length z →
      let o = take n (writer (order_of c given table source) out).output in AreOctets o → (x : O.Told) × Returned o x
  returned out e k b = (_, read_alone _ b (demand2_ours.write_then_read (order_of c given table source) out z e k b))

  -- where it stands in a package, with its part of the table
  module _ {o : Octets} {x : O.Told} (r : Returned o x) (at : ℕ) (t others : List ℕ) (enough : table_size ≤ length t) where
    abbrev es : List Entry
    es = held_from 0 x.all (reader o given z).table

    few : length es ≤ 64
    few = omega (arith, as_many r.shows, r.laid_out.few)

    abbrev after : List ℕ
    after = table_with (map (entry_on at) es) (take table_size t) ++ others

    again_there : {s : Octets} (rest : Octets) → Rest s at (o ++ rest) → PartAgain c given table source x after s
    unfolding parameters_from
    again_there rest u =
        let a = r.again in
        record {
          kind = a.kind;
          id = a.id;
          code = a.code;
          count = a.count;
          parameters = rw (held_count x.all (reader o given z).table) at (same_parameters r.shows few rest u t others enough) ∙ a.parameters;
        }

    others_there : drop table_size after ≡ others
    others_there = others_behind (map (entry_on at) es) (omega (arith, length-map es (entry_on at), few)) t others enough

-- ---- all components
abbrev zeros : List ℕ
zeros = replicate table_size 0

pub data AllReturned (source : Octets) : List Part → (specifiers : ℕ) (table : List ℕ) → List Octets → List O.Told → Type 0 where
  none : {specifiers : ℕ} {table : List ℕ} → AllReturned source [] specifiers table [] []
  more : {c : Part} {cs : List Part} {specifiers : ℕ} {table : List ℕ} {o : Octets} {os : List Octets} {x : O.Told} {xs : List O.Told} →
      Returned zeros c (specifiers % 256) table source o x → AllReturned source cs (specifiers / 256) (drop table_size table) os xs →
      AllReturned source (c ∷ cs) specifiers table (o ∷ os) (x ∷ xs)

octets_in_front : (a b : Octets) → AreOctets (a ++ b) → AreOctets a
octets_in_front a b o i =
    ask (dec_lt i (length a)) (λ h. rw (get_or-append a b 0 i h) at (o i)) (λ n. rw (get_or-eq_default a 0 {n = i} (omega arith)) (omega arith))

-- the operation of what is ordered is that of what is told
same_operation : (kind : ℕ) (code : E.Code) (given : ℕ) → operation_of kind (code_for kind code given).first given ≡ operation_of kind code.first given
unfolding operation_of code_for
same_operation kind code given = ask (ℕ_discrete kind 0xEA) (λ e. rw e) (λ n. rw (ne_eqb kind 0xEA n))

module _ {source : Octets} where
  pub all_returned : {cs : List Part} {specifiers : ℕ} {table : List ℕ} {os : List Octets} → AllWritten source cs specifiers table os → AreOctets (flatten os) →
      (xs : List O.Told) × AllReturned source cs specifiers table os xs
  unfolding flatten
  all_returned AllWritten.none b = ([], none)
  all_returned (AllWritten.more {c} {specifiers = specifiers} {n} {table} {os} e k) b =
      let o = take n (written_alone c (specifiers % 256) table source).output in
      let (x, r) = returned zeros c (specifiers % 256) table source (replicate 4096 0) e (omega (arith, length-replicate {A = ℕ} table_size 0)) (octets_in_front o (flatten os) b) in
      let (xs, rs) = all_returned k (behind b o (flatten os) refl) in
      (x ∷ xs, more r rs)

  pub in_sequence : {cs : List Part} {specifiers : ℕ} {table : List ℕ} {os : List Octets} {xs : List O.Told} → AllReturned source cs specifiers table os xs → Sequence os (flatten os)
  unfolding flatten
  in_sequence none = Sequence.none
  in_sequence (more r k) = Sequence.more r.laid_out.laid.whole (in_sequence k)

  pub all_accepted : {cs : List Part} {specifiers : ℕ} {table : List ℕ} {os : List Octets} {xs : List O.Told} → AllReturned source cs specifiers table os xs → AllAccepted os specifiers xs
  all_accepted none = AllAccepted.none
  all_accepted (more r k) = AllAccepted.more r.accepts (all_accepted k)

  pub as_many_octets : {cs : List Part} {specifiers : ℕ} {table : List ℕ} {os : List Octets} {xs : List O.Told} → AllReturned source cs specifiers table os xs → length os ≡ length cs
  as_many_octets none = refl
  as_many_octets (more r k) = ap suc (as_many_octets k)

  pub carried_again : (packet : ℕ) {cs : List Part} {specifiers : ℕ} {table : List ℕ} {os : List Octets} {xs : List O.Told} → AllReturned source cs specifiers table os xs →
      PartsCarried packet cs specifiers → AllCarried packet xs specifiers
  unfolding heeded
  carried_again packet none PartsCarried.none = AllCarried.none
  carried_again packet (more {c} {specifiers = specifiers} {x = x} r k) (PartsCarried.more h f) =
      AllCarried.more {x = x} {specifiers = specifiers} (rw (r.again.kind, r.again.code, same_operation c.kind c.code (specifiers % 256)) h) (carried_again packet k f)

  pub parts_again : (s : Octets) {cs : List Part} {specifiers : ℕ} {table : List ℕ} {os : List Octets} {xs : List O.Told} → AllReturned source cs specifiers table os xs → {at : ℕ} →
      Rest s at (flatten os) → (t : List ℕ) → table_size * length os ≤ length t → PartsAgain source s cs specifiers table (inside_from at os xs) (tables_from at os xs specifiers t)
  unfolding flatten inside_from tables_from
  parts_again s none u t h = PartsAgain.none
  parts_again s (more {c} {cs} {specifiers} {table} {o} {os} {xs = xs} r k) {at} u t h =
      let others = tables_from (at + length o) os xs (specifiers / 256) (drop table_size t) in
      let given = specifiers % 256 in
      let l = length-drop table_size t in
      PartsAgain.more (again_there zeros c given table source r at t others (omega arith) (flatten os) u)
      (subst (λ a. PartsAgain source s cs (specifiers / 256) (drop table_size table) (inside_from (at + length o) os xs) a) (sym (others_there zeros c given table source r at t others (omega arith)))
      (parts_again s k (R.behind s o u) (drop table_size t) (omega arith)))
