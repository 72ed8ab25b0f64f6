-- How much an accepted answer counts: a reading at most two ID octets and 64 parameters, each of them named or other; a writing at most 4,096 octets.
use Prim.Native.Nat.{ℕ, ◌+◌, ◌≤◌}
use mathlib.Core.Path.{◌≡◌, sym, ap}
use mathlib.Core.List.{List, map}
use lib.ListN.{length, length-map}
use lib.Dec.{leb}
use native.Mathlib.Omega.{arith}
use Rattle.element.specs.Octets.{Octets, AreOctets}
use Rattle.element.specs.Answer.{accepted}
use Rattle.component.specs.declared.Id as D
use Rattle.component.specs.declared.Code as E
use Rattle.component.specs.Layout.{Layout, layout_at, operation_place}
use Rattle.component.specs.Grammar.{Parameter}
use Rattle.component.specs.Composing.{entries_of, octets_of}
use Rattle.element.specs.Output.{written}
use Rattle.component.specs.Table.{table_size, id_of, component_of}
use Rattle.component.specs.Needed.{octets_needed}
use Rattle.component.specs.Composed.{composed}
use Rattle.component.proofs.Parts.{length_between}
use Rattle.component.proofs.Laying.{ordered}
use Rattle.component.proofs.Taken.{taken, passed}
use Rattle.component.proofs.Measuring.{ready}
use Rattle.component.proofs.Composition.{whole}
use Rattle.operation.specs.Row.{Row}
use Rattle.operation.specs.Judge.{judge}
use Rattle.operation.specs.Finding.{row_of}
use Rattle.operation.specs.Reading.{Shown, operation_in, shown_by, shown_of, reading_at, reading}
use Rattle.operation.specs.Items.{item_of, items_of}
use Rattle.operation.specs.Caller.{Told}
use Rattle.operation.specs.Told.{told}
use Rattle.operation.specs.Writing.{writing}
use Rattle.operation.proofs.Places.{all_counted}

abbrev Few : Shown → Type 0
Few x = (length x.id ≤ 2) × (length x.entries ≤ 64) × (x.named + x.other ≡ length x.entries)

abbrev pub Counted : Told → Type 0
Counted x = (x.id.count ≤ 2) × (x.all ≤ 64) × (x.named + x.other ≡ x.all)

inner : {A : Type 0} {x y : A} → accepted x ≡ accepted y → x ≡ y
inner e = cc

module _ (s : Octets) (given room : ℕ) (o : AreOctets s) where
  module _ (from : ℕ) where
    shown : (l : Layout) (row : Row) {x : Shown} → layout_at s from ≡ accepted l → shown_by s l given row ≡ x → Few x
    shown l row e f =
        let r = ordered s o from e in
        rw (← f) (
          omega (arith, length_between s l.head.id.start r.head.inside, r.head.few),
          r.few,
          omega (arith, all_counted row (map item_of l.entries), length-map l.entries item_of),
        )

    few_shown : {x : Shown} → reading_at s from given room ≡ accepted x → Few x
    unfolding reading_at shown_of
    few_shown e =
        let (_, f) = passed (leb table_size room) 1 0 e in
        let (l, g, h) = taken (layout_at s from) f in
        let (row, _, k) = taken (row_of l.head.kind (operation_in s l.head given) (operation_place l.head)) h in
        let (_, _, m) = taken (judge row (map item_of l.entries)) k in
        shown l row g (inner m)

    pub read_at : {x : Told} → accepted x ≡ told (reading_at s from given room) → Counted x
    unfolding told id_of
    read_at {x} e = let (y, f, g) = taken (reading_at s from given room) (sym e) in rw (← inner g) (few_shown f)

  -- of a component that is all of the octets
  pub read : {x : Told} → accepted x ≡ told (reading s given room) → Counted x
  read = read_at 0

module _ (kind : ℕ) (id : D.Id) (code : E.Code) (count : ℕ) (t : List ℕ) (source : Octets) (room : ℕ) where
  short : {ps : List Parameter} {s : Octets} → entries_of kind id count t source ≡ accepted ps → composed (component_of kind id code ps) ≡ s → length s ≤ 4096
  short {ps} e f =
      let r = ready kind id count t source e in
      omega (arith, r.short, ap length f, whole kind id code ps r.allowed r.short)

  few_octets : {s : Octets} → writing kind id code count t source room ≡ accepted s → length s ≤ 4096
  unfolding writing octets_of
  few_octets e =
      let (ps, f, g) = taken (entries_of kind id count t source) e in
      let (row, _, h) = taken (row_of kind code.first 0) g in
      let (_, _, k) = taken (judge row (items_of 0 ps)) h in
      let (_, m) = passed (leb (octets_needed kind id.count ps) room) 17 (octets_needed kind id.count ps) k in
      short f (inner m)

  pub written_short : {octets : ℕ} → accepted octets ≡ written (writing kind id code count t source room) → octets ≤ 4096
  unfolding written
  written_short e = let (s, f, g) = taken (writing kind id code count t source room) (sym e) in rw (← inner g) (few_octets f)
