-- The demands on packages, to be read beside order 5: what is asked of any package reader and any package writer, by
-- what a caller sees of them. The words are the grammar, its faults, Table 2, and what the component's reader and
-- writer say, of which there is one each. `Model` names ours: it satisfies them, and no other does.
use Rattle.std.specs.Prelude.{ℕ, zero, suc, ◌+◌, ◌-◌, ◌/◌, ◌%◌, ◌<◌, ◌≤◌, ◌≡◌, List, [], ◌∷◌, ◌++◌, map, length}
use Rattle.std.specs.Prelude.{take, drop, replicate}
use Rattle.element.specs.Octets.{Octets, AreOctets, if}
use Rattle.element.specs.Answer.{accepted, refused}
use Rattle.component.specs.Grammar.{Component, Laid}
use Rattle.component.specs.Faults as CF
use Rattle.component.specs.Composed.{composed}
use Rattle.component.specs.Shortest.{ShortestLength, Shortest}
use Rattle.component.specs.Part.{part_of}
use Rattle.component.specs.Onward.{entry_on, keeps}
use Rattle.component.specs.Table.{table_size, table_with, held_from, parameters_from, id_of, id_octets}
use Rattle.operation.specs.Row.{Row}
use Rattle.operation.specs.Caller as O
use Rattle.operation.specs.Codes.{operation_of, heeded}
use Rattle.operation.specs.Demands.{its_operation, RowFor, puts, Joined, newcomers, joined, Truthful}
use Rattle.operation.specs.Model as M
use Rattle.package.specs.Types.{PackageType, id_size}
use Rattle.package.specs.Carriage.{carrier}
use Rattle.package.specs.Grammar.{Package, Packaged}
use Rattle.package.specs.Faults.{Unpackaged}
use Rattle.package.specs.Caller.{Inside, Parcel, Read, read, Reader, Part, Order, order, Writer}
use Rattle.package.specs.Reading.{tables_size}
use Rattle.package.specs.Writing.{code_for, order_of, package_octets}

-- one to eight components
abbrev pub Few : ℕ → Type 0
Few count = (1 ≤ count) × (count ≤ 8)

-- a package of this type carries a component of this type and operation
abbrev pub Carries : (packet kind code given : ℕ) → Type 0
Carries packet kind code given = carrier kind (operation_of kind code given) ≡ packet

-- ---- the components of a package, each as the component reader reads its octets alone, with a table of its own. The
-- first goes by the lowest octet of the specifiers, and those behind it by the others
abbrev pub alone : (component : Octets) (given : ℕ) → O.Read
alone o given = M.reader o given (replicate table_size 0)

-- it accepts all of them
pub data AllAccepted : List Octets → (specifiers : ℕ) → List O.Told → Type 0 where
  none : {specifiers : ℕ} → AllAccepted [] specifiers []
  more : {o : Octets} {os : List Octets} {specifiers : ℕ} {x : O.Told} {xs : List O.Told} →
      (alone o (specifiers % 256)).answer ≡ accepted x → AllAccepted os (specifiers / 256) xs →
      AllAccepted (o ∷ os) specifiers (x ∷ xs)

-- or there is a first that it refuses: 3, 11 in a result and 13 keep their details, the others are places in the
-- package
pub data OneRefused : (at : ℕ) → List Octets → (specifiers number detail : ℕ) → Type 0 where
  here : {at : ℕ} {o : Octets} {os : List Octets} {specifiers n d : ℕ} →
      (alone o (specifiers % 256)).answer ≡ refused n d →
      OneRefused at (o ∷ os) specifiers n (if (keeps n d) d (at + d))
  later : {at : ℕ} {o : Octets} {os : List Octets} {specifiers n d : ℕ} {x : O.Told} →
      (alone o (specifiers % 256)).answer ≡ accepted x → OneRefused (at + length o) os (specifiers / 256) n d →
      OneRefused at (o ∷ os) specifiers n d

-- Table 2 lets the package carry all of them, or there is a first that it does not let it carry
pub data AllCarried (packet : ℕ) : List O.Told → (specifiers : ℕ) → Type 0 where
  none : {specifiers : ℕ} → AllCarried packet [] specifiers
  more : {x : O.Told} {xs : List O.Told} {specifiers : ℕ} →
      Carries packet x.kind x.code.first (specifiers % 256) → AllCarried packet xs (specifiers / 256) →
      AllCarried packet (x ∷ xs) specifiers

pub data OneUncarried (packet : ℕ) : (at : ℕ) → List Octets → List O.Told → (specifiers detail : ℕ) → Type 0 where
  here : {at : ℕ} {o : Octets} {os : List Octets} {x : O.Told} {xs : List O.Told} {specifiers : ℕ} →
      (Carries packet x.kind x.code.first (specifiers % 256) → ⊥) →
      OneUncarried packet at (o ∷ os) (x ∷ xs) specifiers at
  later : {at : ℕ} {o : Octets} {os : List Octets} {x : O.Told} {xs : List O.Told} {specifiers d : ℕ} →
      Carries packet x.kind x.code.first (specifiers % 256) →
      OneUncarried packet (at + length o) os xs (specifiers / 256) d →
      OneUncarried packet at (o ∷ os) (x ∷ xs) specifiers d

-- ---- where the parts of a package stand: its component sequence is the last of it, and its contents of that
module _ {p : Package} {s : Octets} (h : Packaged p s) where
  abbrev pub sequence_place : ℕ
  sequence_place = length s - length h.sequence

  abbrev pub first_place : ℕ
  first_place = length s - length h.contents

  -- the transaction ID octets are the last before the sequence
  abbrev pub ids_place : ℕ
  ids_place = sequence_place - length p.ids

-- ---- the reader: 1, 2, 22, 23, the first refused component's own, 24
pub record LaidOut (s : Octets) (t : List ℕ) (p : Package) : Type 0 where
  pub enough : tables_size ≤ length t
  pub within : length s ≤ 4096
  pub packaged : Packaged p s

pub data ReaderRefuses (s : Octets) (specifiers : ℕ) (t : List ℕ) : (number detail : ℕ) → Type 0 where
  no_table : length t < tables_size → ReaderRefuses s specifiers t 1 0
  empty : tables_size ≤ length t → s ≡ [] → ReaderRefuses s specifiers t 2 0
  long : tables_size ≤ length t → 4096 < length s → ReaderRefuses s specifiers t 2 0
  layout : {n d : ℕ} → tables_size ≤ length t → length s ≤ 4096 → Unpackaged s n d → ReaderRefuses s specifiers t n d
  miscounted : {p : Package} → (h : LaidOut s t p) → (Few (length p.components) → ⊥) →
      ReaderRefuses s specifiers t 23 (sequence_place h.packaged)
  refused_inside : {p : Package} {n d : ℕ} → (h : LaidOut s t p) → Few (length p.components) →
      OneRefused (first_place h.packaged) p.components specifiers n d → ReaderRefuses s specifiers t n d
  carriage : {p : Package} {xs : List O.Told} {d : ℕ} → (h : LaidOut s t p) → Few (length p.components) →
      AllAccepted p.components specifiers xs →
      OneUncarried p.kind (first_place h.packaged) p.components xs specifiers d →
      ReaderRefuses s specifiers t 24 d

-- laid out within the limits, of one to eight components, each of which the reader accepts and the package carries
pub record Right (s : Octets) (specifiers : ℕ) (t : List ℕ) (p : Package) (xs : List O.Told) : Type 0 where
  pub laid_out : LaidOut s t p
  pub few : Few (length p.components)
  pub accepted : AllAccepted p.components specifiers xs
  pub carried : AllCarried p.kind xs specifiers

-- each component with its place
unfoldable pub inside_from : (at : ℕ) → List Octets → List O.Told → List Inside
inside_from at [] xs = []
inside_from at (o ∷ os) [] = []
inside_from at (o ∷ os) (x ∷ xs) = record { place = at; told = x } ∷ inside_from (at + length o) os xs

abbrev pub tells : {p : Package} {s : Octets} → Packaged p s → List O.Told → Parcel
tells {p} h xs =
    record {
      kind = p.kind;
      ids = ids_place h;
      size = length p.ids;
      components = inside_from (first_place h) p.components xs;
    }

-- the 320 numbers of each: the entries that are shown of it alone, as many octets on as stand before it
unfoldable pub tables_from : (at : ℕ) → List Octets → List O.Told → (specifiers : ℕ) → List ℕ → List ℕ
tables_from at [] xs specifiers t = t
tables_from at (o ∷ os) [] specifiers t = t
tables_from at (o ∷ os) (x ∷ xs) specifiers t =
    table_with (map (entry_on at) (held_from 0 x.all (alone o (specifiers % 256)).table)) (take table_size t)
    ++ tables_from (at + length o) os xs (specifiers / 256) (drop table_size t)

-- ---- the writer: 1, 22, 23, each component's own as the component writer writes it into 4,096 octets, 24, 15, 17
abbrev pub written_alone : Part → (given : ℕ) (table : List ℕ) (source : Octets) → O.Wrote
written_alone c given table source = M.writer (order_of c given table source) (replicate 4096 0)

pub data AllWritten (source : Octets) : List Part → (specifiers : ℕ) (table : List ℕ) → List Octets → Type 0 where
  none : {specifiers : ℕ} {table : List ℕ} → AllWritten source [] specifiers table []
  more : {c : Part} {cs : List Part} {specifiers n : ℕ} {table : List ℕ} {os : List Octets} →
      (written_alone c (specifiers % 256) table source).answer ≡ accepted n →
      AllWritten source cs (specifiers / 256) (drop table_size table) os →
      AllWritten source (c ∷ cs) specifiers table (take n (written_alone c (specifiers % 256) table source).output ∷ os)

pub data OneUnwritten (source : Octets) : List Part → (specifiers : ℕ) (table : List ℕ) (number detail : ℕ) →
    Type 0 where
  here : {c : Part} {cs : List Part} {specifiers n d : ℕ} {table : List ℕ} →
      (written_alone c (specifiers % 256) table source).answer ≡ refused n d →
      OneUnwritten source (c ∷ cs) specifiers table n d
  later : {c : Part} {cs : List Part} {specifiers m n d : ℕ} {table : List ℕ} →
      (written_alone c (specifiers % 256) table source).answer ≡ accepted m →
      OneUnwritten source cs (specifiers / 256) (drop table_size table) n d →
      OneUnwritten source (c ∷ cs) specifiers table n d

pub data PartsCarried (packet : ℕ) : List Part → (specifiers : ℕ) → Type 0 where
  none : {specifiers : ℕ} → PartsCarried packet [] specifiers
  more : {c : Part} {cs : List Part} {specifiers : ℕ} →
      Carries packet c.kind c.code.first (specifiers % 256) → PartsCarried packet cs (specifiers / 256) →
      PartsCarried packet (c ∷ cs) specifiers

-- its detail is an index; the first of these is component `i`
pub data PartUncarried (packet : ℕ) : (i : ℕ) → List Part → (specifiers detail : ℕ) → Type 0 where
  here : {i : ℕ} {c : Part} {cs : List Part} {specifiers : ℕ} →
      (Carries packet c.kind c.code.first (specifiers % 256) → ⊥) →
      PartUncarried packet i (c ∷ cs) specifiers i
  later : {i : ℕ} {c : Part} {cs : List Part} {specifiers d : ℕ} →
      Carries packet c.kind c.code.first (specifiers % 256) →
      PartUncarried packet (i + 1) cs (specifiers / 256) d → PartUncarried packet i (c ∷ cs) specifiers d

abbrev pub octets_for : Order → List Octets → Octets
octets_for o os = package_octets o.kind o.ids os

pub record Typed (o : Order) : Type 0 where
  pub kind : PackageType o.kind
  pub ids : length o.ids ≡ id_size o.kind

pub record Ready (o : Order) : Type 0 where
  pub enough : tables_size ≤ length o.table
  pub typed : Typed o
  pub few : Few (length o.components)

-- all but the sizes
pub record Composed (o : Order) (os : List Octets) : Type 0 where
  pub ready : Ready o
  pub written : AllWritten o.source o.components o.specifiers o.table os
  pub carried : PartsCarried o.kind o.components o.specifiers

pub data WriterRefuses (o : Order) (out : Octets) : (number detail : ℕ) → Type 0 where
  no_table : length o.table < tables_size → WriterRefuses o out 1 0
  untyped : tables_size ≤ length o.table → (Typed o → ⊥) → WriterRefuses o out 22 0
  miscounted : tables_size ≤ length o.table → Typed o → (Few (length o.components) → ⊥) → WriterRefuses o out 23 0
  refused_inside : {n d : ℕ} → Ready o → OneUnwritten o.source o.components o.specifiers o.table n d →
      WriterRefuses o out n d
  carriage : {os : List Octets} {d : ℕ} → Ready o →
      AllWritten o.source o.components o.specifiers o.table os →
      PartUncarried o.kind 0 o.components o.specifiers d → WriterRefuses o out 24 d
  too_long : {os : List Octets} → Composed o os → 4096 < length (octets_for o os) →
      WriterRefuses o out 15 (length (octets_for o os))
  no_room : {os : List Octets} → Composed o os → length (octets_for o os) ≤ 4096 →
      length out < length (octets_for o os) → WriterRefuses o out 17 (length (octets_for o os))

pub record Writable (o : Order) (out : Octets) (os : List Octets) : Type 0 where
  pub composed : Composed o os
  pub short : length (octets_for o os) ≤ 4096
  pub room : length (octets_for o os) ≤ length out

-- ---- demand 1: a refusal is the one on the list, and changes nothing
pub record Demand1 (r : Reader) (w : Writer) : Type 0 where
  pub reader : (s : Octets) (specifiers : ℕ) (t : List ℕ) {n d : ℕ} → AreOctets s →
      (r s specifiers t).answer ≡ refused n d →
      ReaderRefuses s specifiers t n d × ((r s specifiers t).table ≡ t)
  pub writer : (o : Order) (out : Octets) {n d : ℕ} → (w o out).answer ≡ refused n d →
      WriterRefuses o out n d × ((w o out).output ≡ out)

-- ---- demand 2: accepted is exactly what is right; what was read is written again, and what was written is read again

-- the components of these octets
pub data LaidAll : List Octets → List Component → Type 0 where
  none : LaidAll [] []
  more : {o : Octets} {os : List Octets} {c : Component} {cs : List Component} → Laid c o → LaidAll os cs →
      LaidAll (o ∷ os) (c ∷ cs)

unfoldable pub ShortestAll : {os : List Octets} {cs : List Component} → LaidAll os cs → Type 0
ShortestAll none = Unit
ShortestAll (more h l) = Shortest h × ShortestAll l

-- each length of the package and of its components is the shortest that says it
pub record ShortestPackage {p : Package} {s : Octets} (h : Packaged p s) {cs : List Component}
    (l : LaidAll p.components cs) : Type 0 where
  pub ids : ShortestLength h.identified
  pub components : ShortestAll l
  pub sequence : ShortestLength h.sequenced
  pub whole : ShortestLength h.whole

-- what a reading hands on to a writer, with the package as source
abbrev pub handed_part : Inside → Part
handed_part c = record { kind = c.told.kind; id = c.told.id; code = c.told.code; count = c.told.all }

abbrev pub handed : Parcel → (specifiers : ℕ) → List ℕ → Octets → Order
handed x specifiers t s =
    order x.kind (part_of s x.ids x.size) (map handed_part x.components) specifiers t s

-- what was laid out in `s` is written again with every length at its shortest: the same octets exactly when every
-- length of `s` was so already
pub record WrittenAgain {p : Package} {s : Octets} (h : Packaged p s) {cs : List Component}
    (l : LaidAll p.components cs) (out : Octets) (after : O.Wrote) : Type 0 where
  pub composes : after ≡ puts (package_octets p.kind p.ids (map composed cs)) out
  pub same : ShortestPackage h l → after ≡ puts s out
  pub only : after ≡ puts s out → ShortestPackage h l

-- a component is read again from the package: type, ID octets, code, identifiers and contents
pub record PartAgain (c : Part) (given : ℕ) (table : List ℕ) (source : Octets) (x : O.Told) (after : List ℕ)
    (s : Octets) : Type 0 where
  pub kind : x.kind ≡ c.kind
  pub id : x.id ≡ id_of (id_octets c.id)
  pub code : x.code ≡ heeded c.kind (code_for c.kind c.code given)
  pub count : x.all ≡ c.count
  pub parameters : parameters_from 0 x.all after s ≡ parameters_from 0 c.count table source

pub data PartsAgain (source s : Octets) : List Part → (specifiers : ℕ) (table : List ℕ) → List Inside →
    (after : List ℕ) → Type 0 where
  none : {specifiers : ℕ} {table after : List ℕ} → PartsAgain source s [] specifiers table [] after
  more : {c : Part} {cs : List Part} {specifiers : ℕ} {table after : List ℕ} {x : Inside} {xs : List Inside} →
      PartAgain c (specifiers % 256) table source x.told after s →
      PartsAgain source s cs (specifiers / 256) (drop table_size table) xs (drop table_size after) →
      PartsAgain source s (c ∷ cs) specifiers table (x ∷ xs) after

pub record ReadAgain (r : Reader) (o : Order) (s : Octets) (t : List ℕ) : Type 0 where
  pub told : Parcel
  pub accepts : (r s o.specifiers t).answer ≡ accepted told
  pub kind : told.kind ≡ o.kind
  pub ids : part_of s told.ids told.size ≡ o.ids
  pub components : PartsAgain o.source s o.components o.specifiers o.table told.components
      (r s o.specifiers t).table

pub record Demand2 (r : Reader) (w : Writer) : Type 0 where
  pub reader : (s : Octets) (specifiers : ℕ) (t : List ℕ) {x : Parcel} → AreOctets s →
      (r s specifiers t).answer ≡ accepted x → (p : Package) × (xs : List O.Told) × Right s specifiers t p xs
  pub shown : (s : Octets) (specifiers : ℕ) (t : List ℕ) {p : Package} {xs : List O.Told} → AreOctets s →
      (h : Right s specifiers t p xs) →
      r s specifiers t ≡
      read (accepted (tells h.laid_out.packaged xs))
      (tables_from (first_place h.laid_out.packaged) p.components xs specifiers t)
  pub writer : (o : Order) (out : Octets) {n : ℕ} → (w o out).answer ≡ accepted n →
      (os : List Octets) × Writable o out os
  pub written : (o : Order) (out : Octets) {os : List Octets} → Writable o out os → w o out ≡ puts (octets_for o os) out
  -- writing what was read, into an output as long
  pub read_then_write : (s : Octets) (specifiers : ℕ) (t : List ℕ) (out : Octets) {p : Package} {xs : List O.Told}
      {cs : List Component} → AreOctets s → (h : Right s specifiers t p xs) → (l : LaidAll p.components cs) →
      length s ≤ length out →
      WrittenAgain h.laid_out.packaged l out
      (w (handed (tells h.laid_out.packaged xs) specifiers (r s specifiers t).table s) out)
  -- reading what was written returns what was ordered
  pub write_then_read : (o : Order) (out : Octets) (t : List ℕ) {n : ℕ} → (w o out).answer ≡ accepted n →
      tables_size ≤ length t → AreOctets (take n (w o out).output) → ReadAgain r o (take n (w o out).output) t

-- ---- demand 3: what a component's row does not name changes nothing of the package's verdict

-- a component as it was, or with newcomers that its row does not name
pub data Grown (given : ℕ) : (o u : Octets) → Type 0 where
  kept : {o : Octets} → Grown given o o
  grown : {o u : Octets} {c d : Component} {row : Row} → (h : CF.LaidOut c o) (k : CF.LaidOut d u) →
      d.kind ≡ c.kind → d.id ≡ c.id → d.code ≡ c.code → RowFor c.kind (its_operation c given) row →
      Joined row c.parameters d.parameters → Grown given o u

pub data AllGrown : (os us : List Octets) (specifiers : ℕ) → Type 0 where
  none : {specifiers : ℕ} → AllGrown [] [] specifiers
  more : {o u : Octets} {os us : List Octets} {specifiers : ℕ} → Grown (specifiers % 256) o u →
      AllGrown os us (specifiers / 256) → AllGrown (o ∷ os) (u ∷ us) specifiers

-- what is said of the newer component alone, beside what is said of the older: the component's demand 3
abbrev pub Says : {given : ℕ} {o u : Octets} → Grown given o u → Type 0
Says kept = Unit
Says {given} {o} {u} (grown h k kind id code row j) =
    Truthful h.laid k.laid j (replicate table_size 0) (alone o given) (alone u given)

-- how many newcomers there are
unfoldable pub arrivals : {given : ℕ} {o u : Octets} → Grown given o u → ℕ
arrivals kept = 0
arrivals (grown h k kind id code row j) = newcomers j

-- all components are accepted, and told as before, with so many other parameters more
pub data AllJoined : (os us : List Octets) (specifiers : ℕ) → AllGrown os us specifiers → (xs ys : List O.Told) →
    Type 0 where
  none : {specifiers : ℕ} → AllJoined [] [] specifiers AllGrown.none [] []
  more : {o u : Octets} {os us : List Octets} {specifiers : ℕ} {g : Grown (specifiers % 256) o u}
      {gs : AllGrown os us (specifiers / 256)} {x : O.Told} {xs ys : List O.Told} → Says g →
      (alone o (specifiers % 256)).answer ≡ accepted x → AllJoined os us (specifiers / 256) gs xs ys →
      AllJoined (o ∷ os) (u ∷ us) specifiers (AllGrown.more g gs) (x ∷ xs) (joined x (arrivals g) ∷ ys)

-- or the same component is refused in both, and its detail points to the same; the first ones stand at `at` and at `on`
pub data SameRefused : (at on : ℕ) (os us : List Octets) (specifiers : ℕ) → AllGrown os us specifiers →
    (number older newer : ℕ) → Type 0 where
  here : {at on : ℕ} {o u : Octets} {os us : List Octets} {specifiers : ℕ} {g : Grown (specifiers % 256) o u}
      {gs : AllGrown os us (specifiers / 256)} {n d e : ℕ} → Says g →
      (alone o (specifiers % 256)).answer ≡ refused n d → (alone u (specifiers % 256)).answer ≡ refused n e →
      SameRefused at on (o ∷ os) (u ∷ us) specifiers (AllGrown.more g gs) n
      (if (keeps n d) d (at + d)) (if (keeps n e) e (on + e))
  later : {at on : ℕ} {o u : Octets} {os us : List Octets} {specifiers : ℕ} {g : Grown (specifiers % 256) o u}
      {gs : AllGrown os us (specifiers / 256)} {n d e : ℕ} {x y : O.Told} → Says g →
      (alone o (specifiers % 256)).answer ≡ accepted x → (alone u (specifiers % 256)).answer ≡ accepted y →
      SameRefused (at + length o) (on + length u) os us (specifiers / 256) gs n d e →
      SameRefused at on (o ∷ os) (u ∷ us) specifiers (AllGrown.more g gs) n d e

-- the place of component `i`
unfoldable pub place_of : (at : ℕ) → List Octets → (i : ℕ) → ℕ
place_of at [] i = at
place_of at (o ∷ os) zero = at
place_of at (o ∷ os) (suc i) = place_of (at + length o) os i

-- what is said of the newer package, beside what is said of the older
pub data TruthfulPackage {p q : Package} {s u : Octets} (h : Packaged p s) (k : Packaged q u) (t : List ℕ)
    {specifiers : ℕ} (g : AllGrown p.components q.components specifiers) : Read → Read → Type 0 where
  both_accepted : {xs ys : List O.Told} → AllJoined p.components q.components specifiers g xs ys →
      TruthfulPackage h k t g
      (read (accepted (tells h xs)) (tables_from (first_place h) p.components xs specifiers t))
      (read (accepted (tells k ys)) (tables_from (first_place k) q.components ys specifiers t))
  same_component : {n d e : ℕ} →
      SameRefused (first_place h) (first_place k) p.components q.components specifiers g n d e →
      TruthfulPackage h k t g (read (refused n d) t) (read (refused n e) t)
  same_carriage : (i : ℕ) → i < length p.components → TruthfulPackage h k t g
      (read (refused 24 (place_of (first_place h) p.components i)) t)
      (read (refused 24 (place_of (first_place k) q.components i)) t)

pub record Demand3 (r : Reader) : Type 0 where
  pub truthful : (s u : Octets) (t : List ℕ) {specifiers : ℕ} {p q : Package} → AreOctets s → AreOctets u →
      (h : LaidOut s t p) (k : LaidOut u t q) → q.kind ≡ p.kind → Few (length p.components) →
      (g : AllGrown p.components q.components specifiers) →
      TruthfulPackage h.packaged k.packaged t g (r s specifiers t) (r u specifiers t)

pub record Demands (r : Reader) (w : Writer) : Type 0 where
  pub first : Demand1 r w
  pub second : Demand2 r w
  pub third : Demand3 r
