-- Demand 3 of ours: a component with newcomers that its row does not name is read as without them.
use Prim.Native.Nat.{ℕ, ◌+◌, ◌<◌, ◌≤◌}
use mathlib.Core.Path.{◌≡◌, refl, ap, ◌∙◌}
use mathlib.Core.Bool.{Bool, true, false, not}
use mathlib.Core.List.Memᴰ
use mathlib.Core.List.{List, map}
use lib.ListN.{length}
use lib.Dec.{eqb}
use native.Mathlib.Omega.{arith}
use Rattle.element.specs.Octets.{Octets, AreOctets, if}
use Rattle.element.specs.Answer.{Answer, accepted, refused}
use Rattle.component.specs.Table.{table_size, table_with}
use Rattle.component.specs.Grammar.{Parameter, Component}
use Rattle.component.specs.Faults.{LaidOut}
use Rattle.component.specs.Standing.{Shows, Pairwise, standing}
use Rattle.component.proofs.Shown.{standing_show}
use Rattle.operation.specs.Row.{Row, named as names}
use Rattle.operation.specs.Judge.{judge, pointed}
use Rattle.operation.specs.Faults.{RowFault, again, missized, missing, both}
use Rattle.operation.specs.Items.{item_of, items_of}
use Rattle.operation.specs.Caller.{read}
use Rattle.operation.specs.Demands.{its_operation, RowFor, key_of, tally, ReaderRefuses, tells, Joined, done, kept, newcomer, moved, newcomers, joined, place_in, Truthful, both_accepted, same_missing, same_parameter, Demand3}
use Rattle.operation.specs.Model.{reader, Ours}
use Rattle.operation.proofs.Untouched.{untouched}
use Rattle.operation.proofs.Marked.{judged, inside, items, grown}
use Rattle.operation.proofs.Keys.{fits_read}
use Rattle.operation.proofs.RowFaults.{row_faulty, pointed_at}
use Rattle.operation.proofs.Model.{demand1_ours, demand2_ours}
use Rattle.operation.proofs.OnlyOne.{reader_refuses, reader_accepts, refused_so}

-- ---- what the newcomers add
one_more : (t : Bool) (a b n : ℕ) → a ≡ b + n → if t (1 + a) a ≡ if t (1 + b) b + n
one_more true a b n h = omega arith
one_more false a b n h = h

module _ {row : Row} where
  more_parameters : {ps qs : List Parameter} (j : Joined row ps qs) → length qs ≡ length ps + newcomers j
  unfolding newcomers
  more_parameters done = refl
  more_parameters (kept p j) = omega (arith, more_parameters j)
  more_parameters (newcomer p u j) = omega (arith, more_parameters j)

  as_many_named : {ps qs : List Parameter} (j : Joined row ps qs) → tally (names row) (map key_of qs) ≡ tally (names row) (map key_of ps)
  unfolding tally
  as_many_named done = refl
  as_many_named (kept p j) = rw (as_many_named j)
  as_many_named (newcomer p u j) = rw u (as_many_named j)

  more_others : {ps qs : List Parameter} (j : Joined row ps qs) → tally (λ k. not (names row k)) (map key_of qs) ≡ tally (λ k. not (names row k)) (map key_of ps) + newcomers j
  unfolding tally newcomers
  more_others done = refl
  more_others (kept p j) = one_more (not (names row (key_of p))) _ _ _ (more_others j)
  more_others (newcomer p u j) = rw u (omega (arith, more_others j))

module _ (given : ℕ) (t : List ℕ) (enough : table_size ≤ length t) {row : Row} where
  -- a component that is laid out, and its row: what ours reads
  module _ {c : Component} {s : Octets} (o : AreOctets s) (h : LaidOut c s) (e : RowFor c.kind (its_operation c given) row) where
    shows : Pairwise (Shows s) (standing h.laid) c.parameters
    shows = standing_show h.laid

    all_right : judge row (map item_of (standing h.laid)) ≡ accepted tt → reader s given t ≡ read (accepted (tells given c row)) (table_with (standing h.laid) t)
    all_right j = reader_accepts s o given t (record { enough = enough; laid_out = h; has_row = e; fits = (fits_read row shows).0 j })

    not_right : {n d : ℕ} → judge row (map item_of (standing h.laid)) ≡ refused n d → reader s given t ≡ read (refused n d) t
    not_right j = refused_so s o given t (reader_refuses s o given t (ReaderRefuses.misfit enough h e (row_faulty row _ j)))

  module _ {c d : Component} {s u : Octets} (o : AreOctets s) (b : AreOctets u) (h : LaidOut c s) (k : LaidOut d u)
      (kind : d.kind ≡ c.kind) (id : d.id ≡ c.id) (code : d.code ≡ c.code)
      (e : RowFor c.kind (its_operation c given) row) (j : Joined row c.parameters d.parameters) where
    abbrev f : ℕ → ℕ
    f = place_in (standing h.laid)

    abbrev g : ℕ → ℕ
    g i = place_in (standing k.laid) (moved j i)

    its_row : RowFor d.kind (its_operation d given) row
    its_row = rw (kind, code) e

    older : judge row (map item_of (standing h.laid)) ≡ pointed f (judge row (items_of 0 c.parameters))
    older = rw (items (shows o h e)).0 (judged row f c.parameters)

    newer : judge row (map item_of (standing k.laid)) ≡ pointed g (judge row (items_of 0 c.parameters))
    newer = rw (items (shows b k its_row)).0 (untouched row _ _ (grown (place_in (standing k.laid)) j) ∙ judged row g c.parameters)

    told_more : tells given d row ≡ joined (tells given c row) (newcomers j)
    told_more = rw (code, kind, id, more_parameters j, as_many_named j, more_others j)

    standing_in : {n i : ℕ} → RowFault row (items_of 0 c.parameters) n i → (n ≡ 13 → ⊥) → i < length c.parameters
    standing_in f h = let (y, mem, mark) = pointed_at f h in omega (arith, inside 0 c.parameters mem)

    refused_both : (n i : ℕ) → RowFault row (items_of 0 c.parameters) n i →
        Truthful h.laid k.laid j t (read (refused n (if (eqb n 13) i (f i))) t) (read (refused n (if (eqb n 13) i (g i))) t)
    refused_both n i (again before x behind e o m r u) =
        same_parameter 12 x.mark (Memᴰ.head refl) (standing_in (again before x behind e o m r u) λ z. omega arith)
    refused_both n i (missized {x} o f) =
        same_parameter 26 x.mark (Memᴰ.tail (Memᴰ.head refl)) (standing_in (missized o f) λ z. omega arith)
    refused_both n i (missing _ _ _) = same_missing _
    refused_both n i (both {x = x} o s e p y) =
        same_parameter 14 x.mark (Memᴰ.tail (Memᴰ.tail (Memᴰ.head refl))) (standing_in (both o s e p y) λ z. omega arith)

    verdict : (a : Answer Unit) → judge row (items_of 0 c.parameters) ≡ a → Truthful h.laid k.laid j t (reader s given t) (reader u given t)
    unfolding pointed
    verdict (accepted _) q =
        let p = all_right o h e (older ∙ ap (pointed f) q) in
        let r = all_right b k its_row (newer ∙ ap (pointed g) q) in
        rw (p, r ∙ ap (λ x. read (accepted x) (table_with (standing k.laid) t)) told_more) (both_accepted (tells given c row))
    verdict (refused n i) q =
        let p = not_right o h e (older ∙ ap (pointed f) q) in
        let r = not_right b k its_row (newer ∙ ap (pointed g) q) in
        rw (p, r) (refused_both n i (row_faulty row _ q))

pub demand3_ours : Demand3 reader
demand3_ours = record { truthful = λ given c d s u t o b enough h k kind id code e j. verdict given t enough o b h k kind id code e j _ refl }

pub ours : Ours
unfolding Ours
ours = record { first = demand1_ours; second = demand2_ours; third = demand3_ours }
