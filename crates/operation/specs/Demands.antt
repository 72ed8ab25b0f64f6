-- The three demands, to be read beside the paper: what is asked of any reader and any writer, by what a caller sees
-- of them. The words are the grammar, the faults and the book's table. `Model` names ours: it satisfies them, and no
-- other does.
use Rattle.std.specs.Prelude.{ℕ, zero, suc, ◌+◌, ◌*◌, ◌<◌, ◌≤◌, ◌≡◌, Bool, false, not, ◌⊎◌, length, get_or, take, drop}
use mathlib.Core.List.{List, [], ◌∷◌, ◌++◌, map, Memᴰ}
use Rattle.element.specs.Octets.{Octets, AreOctets, if}
use Rattle.element.specs.Answer.{accepted, refused}
use Rattle.component.specs.Table.{
  Entry,
  width,
  table_size,
  table_with,
  held,
  held_from,
  EntryStands,
  parameters_from,
  id_of,
  id_octets,
  code_of,
  component_of,
}
use Rattle.component.specs.declared.Code as E
use Rattle.component.specs.Types.{Typed, Allowed}
use Rattle.component.specs.Grammar.{Parameter, Laid, Component}
use Rattle.component.specs.Faults.{Faulty, LaidOut}
use Rattle.component.specs.Composed.{composed}
use Rattle.component.specs.Shortest.{Shortest}
use Rattle.component.specs.Standing.{Shows, Pairwise, standing, operation_at}
use Rattle.component.specs.Needed.{octets_needed}
use Rattle.operation.specs.Row.{Row, key, named as names}
use Rattle.operation.specs.Rows.{operations}
use Rattle.operation.specs.Book.{Fits}
use Rattle.operation.specs.Faults.{RowFault}
use Rattle.operation.specs.Items.{item_of, items_of}
use Rattle.operation.specs.Codes.{operation_of, told_code, heeded}
use Rattle.operation.specs.Caller.{Told, Read, read, Reader, Order, order, Wrote, wrote, Writer}

abbrev pub key_of : Parameter → ℕ
key_of p = key p.number p.form

-- the book has a parameter table for each operation's INVOKE and RESULT
abbrev pub Rowed : (kind : ℕ) → Type 0
Rowed kind = (kind ≡ 0xE9) ⊎ (kind ≡ 0xEA)

-- the row of this operation and component type; an ERROR and a REJECT have the row of no line: it names nothing and
-- asks for nothing, so that the layout is the whole verdict
pub data RowFor (kind operation : ℕ) : Row → Type 0 where
  listed : {row : Row} → Rowed kind →
      Memᴰ (record { kind = kind; specifier = operation; row = row }) operations → RowFor kind operation row
  unasked : (Rowed kind → ⊥) → RowFor kind operation []

abbrev pub NoRow : (kind operation : ℕ) → Type 0
NoRow kind operation = (row : Row) → RowFor kind operation row → ⊥

-- the operation of a component, and the code that is told of it
abbrev pub its_operation : Component → (given : ℕ) → ℕ
its_operation c given = operation_of c.kind (get_or c.code 0 0) given

abbrev pub its_code : Component → (given : ℕ) → E.Code
its_code c given = code_of (told_code c.kind c.code given)

-- how many keys pass a test
unfoldable pub tally : (ℕ → Bool) → List ℕ → ℕ
tally test [] = 0
tally test (k ∷ ks) = if (test k) (1 + tally test ks) (tally test ks)

-- ---- the reader: 1, the faults of the octets, 11, and the faults of the run against its row, each parameter marked by
-- its place
pub data ReaderRefuses (s : Octets) (given : ℕ) (t : List ℕ) : (number detail : ℕ) → Type 0 where
  table : length t < table_size → ReaderRefuses s given t 1 0
  fault : {n d : ℕ} → table_size ≤ length t → Faulty n d s → ReaderRefuses s given t n d
  no_row : {c : Component} → table_size ≤ length t → (h : LaidOut c s) → NoRow c.kind (its_operation c given) →
      ReaderRefuses s given t 11 (operation_at h.laid)
  misfit : {c : Component} {row : Row} {n d : ℕ} → table_size ≤ length t → (h : LaidOut c s) →
      RowFor c.kind (its_operation c given) row → RowFault row (map item_of (standing h.laid)) n d →
      ReaderRefuses s given t n d

-- laid out within the limits, with a row, and as the book's table has it
pub record Right (s : Octets) (given : ℕ) (t : List ℕ) (c : Component) (row : Row) : Type 0 where
  pub enough : table_size ≤ length t
  pub laid_out : LaidOut c s
  pub has_row : RowFor c.kind (its_operation c given) row
  pub fits : Fits row (items_of 0 c.parameters)

-- what is told of it: the counts are those that the row makes
abbrev pub tells : (given : ℕ) → Component → Row → Told
tells given c row =
    record {
      kind = c.kind;
      id = id_of c.id;
      code = its_code c given;
      all = length c.parameters;
      named = tally (names row) (map key_of c.parameters);
      other = tally (λ k. not (names row k)) (map key_of c.parameters);
    }

-- ---- the writer: 3, 6, 10, 1, 16, 15, 11, the faults of the run against its row, each parameter marked by its entry,
-- and 17
abbrev pub Stands : Order → (i : ℕ) → Type 0
Stands o i = EntryStands o.source (held o.table i)

abbrev pub ordered : Order → List Parameter
ordered o = parameters_from 0 o.count o.table o.source

abbrev pub needed : Order → ℕ
needed o = octets_needed o.kind o.id.count (ordered o)

abbrev pub made : Order → Component
made o = component_of o.kind o.id o.code (ordered o)

abbrev pub octets_for : Order → Octets
octets_for o = composed (made o)

-- the entries are there
pub record Held (o : Order) : Type 0 where
  pub allowed : Allowed o.kind o.id.count
  pub few : o.count ≤ 64
  pub table : width * o.count ≤ length o.table

pub record Ready (o : Order) : Type 0 where
  pub held : Held o
  pub stand : (i : ℕ) → i < o.count → Stands o i
  pub short : needed o ≤ 4096

pub data WriterRefuses (o : Order) (out : Octets) : (number detail : ℕ) → Type 0 where
  no_type : (Typed o.kind → ⊥) → WriterRefuses o out 3 0
  no_id : Typed o.kind → (Allowed o.kind o.id.count → ⊥) → WriterRefuses o out 6 0
  too_many : Allowed o.kind o.id.count → 64 < o.count → WriterRefuses o out 10 0
  no_table : Allowed o.kind o.id.count → o.count ≤ 64 → length o.table < width * o.count →
      WriterRefuses o out 1 0
  no_entry : {i : ℕ} → Held o → i < o.count → ((j : ℕ) → j < i → Stands o j) → (Stands o i → ⊥) →
      WriterRefuses o out 16 i
  too_long : Held o → ((i : ℕ) → i < o.count → Stands o i) → 4096 < needed o → WriterRefuses o out 15 (needed o)
  no_row : Ready o → NoRow o.kind o.code.first → WriterRefuses o out 11 0
  misfit : {row : Row} {n d : ℕ} → Ready o → RowFor o.kind o.code.first row →
      RowFault row (items_of 0 (ordered o)) n d → WriterRefuses o out n d
  no_room : {row : Row} → Ready o → RowFor o.kind o.code.first row → Fits row (items_of 0 (ordered o)) →
      length out < needed o → WriterRefuses o out 17 (needed o)

pub record Writable (o : Order) (out : Octets) (row : Row) : Type 0 where
  pub ready : Ready o
  pub has_row : RowFor o.kind o.code.first row
  pub fits : Fits row (items_of 0 (ordered o))
  pub room : needed o ≤ length out

-- ---- demand 1: a refusal is the one on the paper's list, and changes nothing
pub record Demand1 (r : Reader) (w : Writer) : Type 0 where
  pub reader : (s : Octets) (given : ℕ) (t : List ℕ) {n d : ℕ} → AreOctets s → (r s given t).answer ≡ refused n d →
      ReaderRefuses s given t n d × ((r s given t).table ≡ t)
  pub writer : (o : Order) (out : Octets) {n d : ℕ} → (w o out).answer ≡ refused n d →
      WriterRefuses o out n d × ((w o out).output ≡ out)

-- ---- demand 2: accepted is exactly what is right; what was read is written again, and what was written is read again

-- these octets are written: so many are accepted, and they stand in front of the output
abbrev pub puts : Octets → (out : Octets) → Wrote
puts s out = wrote (accepted (length s)) (s ++ drop (length s) out)

-- what a reading hands on to a writer, with the component as source
abbrev pub handed : Told → List ℕ → Octets → Order
handed x t s = order x.kind x.id x.code x.all t s

-- what was laid out in `s` is written again with every length at its shortest: the same octets exactly when every
-- length of `s` was so already
pub record WrittenAgain {c : Component} {s : Octets} (h : Laid c s) (out : Octets) (after : Wrote) : Type 0 where
  pub composes : after ≡ puts (composed c) out
  pub same : Shortest h → after ≡ puts s out
  pub only : after ≡ puts s out → Shortest h

-- what was ordered is read again from its octets: type, ID octets, code, identifiers and contents; a RESULT by the
-- specifier that it was ordered with
pub record ReadAgain (r : Reader) (o : Order) (s : Octets) (t : List ℕ) : Type 0 where
  pub told : Told
  pub accepts : (r s o.code.first t).answer ≡ accepted told
  pub kind : told.kind ≡ o.kind
  pub id : told.id ≡ id_of (id_octets o.id)
  pub code : told.code ≡ heeded o.kind o.code
  pub count : told.all ≡ o.count
  pub parameters : parameters_from 0 told.all (r s o.code.first t).table s ≡ ordered o

pub record Demand2 (r : Reader) (w : Writer) : Type 0 where
  pub reader : (s : Octets) (given : ℕ) (t : List ℕ) {x : Told} → AreOctets s → (r s given t).answer ≡ accepted x →
      (c : Component) × (row : Row) × Right s given t c row
  pub shown : (s : Octets) (given : ℕ) (t : List ℕ) {c : Component} {row : Row} → AreOctets s →
      (h : Right s given t c row) →
      r s given t ≡ read (accepted (tells given c row)) (table_with (standing h.laid_out.laid) t)
  -- each entry of the table shows its parameter: the fifth number is the place of the identifier
  pub placed : (s : Octets) (given : ℕ) (t : List ℕ) {c : Component} {row : Row} → AreOctets s →
      Right s given t c row →
      Pairwise (Shows s) (held_from 0 (length c.parameters) (r s given t).table) c.parameters
  pub writer : (o : Order) (out : Octets) {n : ℕ} → (w o out).answer ≡ accepted n → (row : Row) × Writable o out row
  pub written : (o : Order) (out : Octets) {row : Row} → Writable o out row → w o out ≡ puts (octets_for o) out
  -- writing what was read, into an output as long
  pub read_then_write : (s : Octets) (given : ℕ) (t : List ℕ) (out : Octets) {x : Told} {c : Component} → AreOctets s →
      (r s given t).answer ≡ accepted x → (h : Laid c s) → length s ≤ length out →
      WrittenAgain h out (w (handed x (r s given t).table s) out)
  -- reading what was written returns what was ordered
  pub write_then_read : (o : Order) (out : Octets) (t : List ℕ) {n : ℕ} → (w o out).answer ≡ accepted n →
      table_size ≤ length t → AreOctets (take n (w o out).output) →
      ReadAgain r o (take n (w o out).output) t

-- ---- demand 3: what a row does not name changes nothing of its verdict

-- the same parameters, with newcomers anywhere among them
pub data Joined (row : Row) : List Parameter → List Parameter → Type 0 where
  done : Joined row [] []
  kept : (p : Parameter) {ps qs : List Parameter} → Joined row ps qs → Joined row (p ∷ ps) (p ∷ qs)
  newcomer : (p : Parameter) {ps qs : List Parameter} → names row (key_of p) ≡ false → Joined row ps qs →
      Joined row ps (p ∷ qs)

-- where the i-th parameter of the one stands in the other
unfoldable pub moved : {row : Row} {ps qs : List Parameter} → Joined row ps qs → ℕ → ℕ
moved done i = i
moved (kept p j) zero = zero
moved (kept p j) (suc i) = suc (moved j i)
moved (newcomer p u j) i = suc (moved j i)

unfoldable pub newcomers : {row : Row} {ps qs : List Parameter} → Joined row ps qs → ℕ
newcomers done = 0
newcomers (kept p j) = newcomers j
newcomers (newcomer p u j) = 1 + newcomers j

-- the place of the i-th entry
unfoldable pub place_in : List Entry → ℕ → ℕ
place_in [] i = 0
place_in (e ∷ es) zero = e.place
place_in (e ∷ es) (suc i) = place_in es i

-- the same, with so many other parameters more
abbrev pub joined : Told → ℕ → Told
joined a n =
    record {
      kind = a.kind;
      id = a.id;
      code = a.code;
      all = a.all + n;
      named = a.named;
      other = a.other + n;
    }

-- what is said of the newer component, beside what is said of the older
pub data Truthful {c d : Component} {s u : Octets} (x : Laid c s) (y : Laid d u) {row : Row}
    (j : Joined row c.parameters d.parameters) (t : List ℕ) : Read → Read → Type 0 where
  both_accepted : (a : Told) → Truthful x y j t (read (accepted a) (table_with (standing x) t))
      (read (accepted (joined a (newcomers j))) (table_with (standing y) t))
  same_missing : (number : ℕ) → Truthful x y j t (read (refused 13 number) t) (read (refused 13 number) t)
  same_parameter : (n i : ℕ) → Memᴰ n (12 ∷ 26 ∷ 14 ∷ []) → i < length c.parameters → Truthful x y j t
      (read (refused n (place_in (standing x) i)) t) (read (refused n (place_in (standing y) (moved j i))) t)

pub record Demand3 (r : Reader) : Type 0 where
  pub truthful : (given : ℕ) (c d : Component) (s u : Octets) (t : List ℕ) {row : Row} → AreOctets s → AreOctets u →
      table_size ≤ length t → (h : LaidOut c s) (k : LaidOut d u) → d.kind ≡ c.kind →
      d.id ≡ c.id → d.code ≡ c.code →
      RowFor c.kind (its_operation c given) row → (j : Joined row c.parameters d.parameters) →
      Truthful h.laid k.laid j t (r s given t) (r u given t)

pub record Demands (r : Reader) (w : Writer) : Type 0 where
  pub first : Demand1 r w
  pub second : Demand2 r w
  pub third : Demand3 r
