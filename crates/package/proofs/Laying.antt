-- A package laid down: the steps of `put_components`, `put`, `lay` and `write`.
use Prim.Native.Nat.{ℕ, ◌+◌, ◌-◌, ◌*◌, ◌/◌, ◌%◌, ◌<◌, ◌≤◌}
use mathlib.Core.Path.{◌≡◌, refl, sym, ap, ◌∙◌}
use mathlib.Core.List.{List, [], ◌∷◌, ◌++◌, map, flatten, append_assoc}
use lib.ListN.{length, drop, get_or, length-append, length-map, length-drop, drop_of_length-le}
use lib.Seq.{drop-cons, drop-drop}
use borrow.Author.Tests.{eq-eqb, le-leb, lt-leb, lt-ltb}
use borrow.Author.Rules.{part_to_end}
use borrow.Rule.Slice.PartMut.{put_mid}
use native.Mathlib.Numerals.{add-one}
use native.Mathlib.Omega.{arith}
use Rattle.std.specs.Int.{w64, to_le_bytes}
use Rattle.element.specs.Octets.{Octets}
use Rattle.element.specs.Answer.{Answer, accepted, refused, ◌>>=◌, ◌>>◌}
use Rattle.element.specs.Length.{shortest, field_size}
use Rattle.element.specs.Output.{written, output_after}
use Rattle.element.proofs.Reading.{less, same}
use Rattle.element.proofs.LengthLaws as L
use Rattle.element.proofs.FieldLaws.{put_length}
use Rattle.component.specs.declared.Id as I
use Rattle.component.specs.declared.Code as E
use Rattle.component.specs.Table.{table_size}
use Rattle.component.specs.Composed.{element}
use Rattle.component.specs.Composing.{Sizes}
use Rattle.component.specs.inner.Emitting.{Put, laid as Laid-by}
use Rattle.component.proofs.Taken.{taken}
use Rattle.component.proofs.Putting.{Left, begins, ends, goes_on}
use Rattle.component.proofs.Laid.{lays as lays_measured}
use Rattle.operation.specs.declared.summary.Outline as O
use Rattle.operation.specs.Model.{written_as}
use Rattle.operation.specs.Writing.{writing, weighing_sizes}
use Rattle.operation.proofs.Writer.{whole_weighed}
use Rattle.package.specs.declared.writing.Order as D
use Rattle.package.specs.Types.{id_size}
use Rattle.package.specs.Caller.{Part}
use Rattle.package.specs.Reading.{few, tables_size}
use Rattle.package.specs.Told.{part_in}
use Rattle.package.specs.Writing.{order_of, write_each, carried_as, package_octets, laid_down, package_writing}
use Rattle.package.specs.inner.Leftover.{closing}
use Rattle.package.specs.inner.Weighed.{outline_for, sequence, weighed, packaged, lodged, left_at, Noted, Outcome, Fits}
use Rattle.package.specs.inner.Ordered.{sequence_of, weighed_of, lodged_of, writing_of}
use Rattle.package.proofs.Fronting.{behind, front, part, goes_behind}
use Rattle.package.proofs.Weighing.{weighs, measures, composes, split, at_most, given_at, left_more}

-- ---- the steps of `put_components`
module _ (kind : ℕ) (id : I.Id) (code : E.Code) (count : ℕ) (t : List ℕ) (source : Octets) where
  -- a component that was weighed is put down as it is written
  as_written : {s : Octets} → writing kind id code count t source 4096 ≡ accepted s → {z : Sizes} → weighing_sizes kind id code count t source ≡ accepted z →
      {room : ℕ} → length s ≤ room → Laid-by kind id code count t source z.set room ≡ s
  unfolding written
  as_written {s} e {z} f {room} h =
      let w = weighs kind id code count t source ∙ sym (whole_weighed kind id code count t source (sym f)) in
      let l : length s ≡ z.whole = cc in
      let c = composes kind id code count t source e h in
      let p = lays_measured kind id code count t source (measures kind id code count t source f) {room = room} (omega arith) in
      cc

module _ (xs : List ℕ) (sp : ℕ) (t : List ℕ) (source out : Octets) where
  -- behind `i` components, whose octets go up to `at`
  pub record Laying (i at : ℕ) (mid : Octets) : Type 0 where
    pub all : Octets
    pub rest : Octets
    pub whole : sequence (map part_in xs) sp t source ≡ accepted all
    pub others : sequence (map part_in (drop i xs)) (left_at i sp) (drop (table_size * i) t) source ≡ accepted rest
    pub put : Left all 0 out rest at mid
    pub room : length all ≤ length out
    pub long : length mid ≡ length out

  pub begun : Fits (sequence (map part_in xs) sp t source) (length out) → Laying 0 0 out
  unfolding written left_at
  begun (n, f, few) =
      let (a, g, p) = taken (sequence (map part_in xs) sp t source) f in
      let q : length a ≡ n = cc in
      record { all = a; rest = a; whole = g; others = g; put = begins; room = omega arith; long = refl }

  module _ {i at : ℕ} {mid : Octets} (l : Laying i at mid) where
    pub within : at ≤ length mid
    within = omega (arith, l.put.place, l.room, l.long)

    pub ended : length xs ≤ i → mid ≡ output_after out (sequence (map part_in xs) sp t source)
    unfolding sequence write_each flatten
    ended h =
        let none : drop i xs ≡ [] = drop_of_length-le xs {i = i} h in
        let o = rw none at l.others in
        let r : l.rest ≡ [] = cc in
        rw l.whole ((ends (rw r at l.put)).octets ∙ front l.all out)

    module _ (h : i < length xs) (few : i < 8) (sets : List ℕ) (noted : Noted xs sp t source (length xs) sets)
        {o : O.Outline} (told : o ≡ outline_for (part_in (get_or xs i 0)) (get_or (to_le_bytes w64 sp) i 0)) where
      record Next : Type 0 where
        head : Octets
        tail : Octets
        is : Laid-by o.kind o.id o.code o.all (behind (table_size * i) t) source (get_or sets i 0) (length (behind at mid)) ≡ head
        others : sequence (map part_in (drop (i + 1) xs)) (left_at i sp / 256) (drop (table_size * (i + 1)) t) source ≡ accepted tail
        both : head ++ tail ≡ l.rest

      next : Next
      next =
          let x = get_or xs i 0 in
          let e : drop i xs ≡ x ∷ drop (i + 1) xs = rw (add-one, drop-cons xs i 0) in
          let (first, f, g) = taken (written_as (order_of (part_in x) (left_at i sp % 256) (drop (table_size * i) t) source) 4096)
          (sym (split (part_in x) (map part_in (drop (i + 1) xs)) (left_at i sp) (drop (table_size * i) t) source) ∙ rw e at l.others) in
          let (tail, k, m) = taken (sequence (map part_in (drop (i + 1) xs)) (left_at i sp / 256) (drop table_size (drop (table_size * i) t)) source) g in
          let (z, w, s) = noted i h in
          let both : first ++ tail ≡ l.rest = cc in
          let room : length first ≤ length (behind at mid) =
          rw (part_to_end mid at, length-drop at mid) (omega (arith, simp length-append at (ap length both), l.put.place, l.room, l.long)) in
          let size : table_size * i + table_size ≡ table_size * (i + 1) = omega arith in
          record {
            head = first;
            tail = tail;
            is = rw (s, told, given_at i sp few, part_to_end t (table_size * i)) (as_written _ _ _ _ _ _ f w room);
            others = rw (← size, ← drop-drop table_size (table_size * i) t) k;
            both = both;
          }

      pub more : {n : ℕ} {after : Octets} →
          Put (Laid-by o.kind o.id o.code o.all (behind (table_size * i) t) source (get_or sets i 0) (length (behind at mid))) 0 (behind at mid) n after →
          (at + n ≤ length mid) × Laying (i + 1) (at + n) (put_mid at (length mid - at) mid after)
      more {n} p =
          let q = rw next.is at (part {out = mid} {a = at} p) in
          let o = goes_on next.head next.tail (rw (← next.both) at l.put) q within in
          let room : at + n ≤ length mid = omega (arith, o.place, l.room, l.long) in (
            room,
            record {
              all = l.all;
              rest = next.tail;
              whole = l.whole;
              others = rw (left_more i sp) next.others;
              put = o;
              room = l.room;
              long = ap length q.octets ∙ put_length next.head at mid (omega (arith, q.place)) ∙ l.long;
            },
          )

-- ---- the package
one_octet : (n : ℕ) → n < 128 → length (shortest n) ≡ 1
unfolding shortest
one_octet n h = simp (lt-ltb n 128)

element_size_lem : (octet : ℕ) (s : Octets) {n : ℕ} → length s ≡ n → length (element (octet ∷ []) s) ≡ 1 + length (shortest n) + n
unfolding element
element_size_lem octet s e = rw (← e) (omega (arith, length-append (octet ∷ shortest (length s)) s))

regroup : (f g h s : Octets) → f ++ g ++ h ++ s ≡ f ++ (g ++ (h ++ s))
regroup f g h s = simp append_assoc

-- its octets, where the components take `set` of them and all behind its own length `body`
module _ (kind : ℕ) (ids : Octets) (os : List Octets) {body set : ℕ} (counted : length (flatten os) ≡ set) (few : length ids < 128)
    (sized : body ≡ 2 + length ids + (1 + length (shortest set) + set)) where
  body_size_lem : length (element (0xC7 ∷ []) ids ++ element (0xE8 ∷ []) (flatten os)) ≡ body
  body_size_lem = simp length-append (omega (arith, one_octet (length ids) few, element_size_lem 0xC7 ids refl, element_size_lem 0xE8 (flatten os) counted))

  pub package_size : length (package_octets kind ids os) ≡ 1 + length (shortest body) + body
  unfolding package_octets
  package_size = element_size_lem kind (element (0xC7 ∷ []) ids ++ element (0xE8 ∷ []) (flatten os)) body_size_lem

  parts : (kind ∷ shortest body) ++ element (0xC7 ∷ []) ids ++ (0xE8 ∷ shortest set) ++ flatten os ≡ package_octets kind ids os
  unfolding package_octets element
  parts = rw (← body_size_lem, ← counted) (regroup (kind ∷ shortest _) (element (0xC7 ∷ []) ids) (0xE8 ∷ shortest (length (flatten os))) (flatten os))

-- the components that take `set` octets
listed : (cs : List Part) (sp : ℕ) (t : List ℕ) (source : Octets) {set : ℕ} → written (sequence cs sp t source) ≡ accepted set →
    (os : List Octets) × (write_each cs sp t source ≡ accepted os) × (length (flatten os) ≡ set)
unfolding written sequence
listed cs sp t source {set} e =
    let (s, f, g) = taken (sequence cs sp t source) e in
    let (os, h, i) = taken (write_each cs sp t source) f in
    let k : length (flatten os) ≡ set = cc in
    (os, h, k)

-- and stand behind all that comes before them
pub packages : (cs : List Part) (sp : ℕ) (t : List ℕ) (source : Octets) (kind : ℕ) (ids : Octets) {body set n : ℕ} {out after last : Octets} →
    written (sequence cs sp t source) ≡ accepted set → length ids < 128 → body ≡ 2 + length ids + (1 + length (shortest set) + set) →
    Put ((kind ∷ shortest body) ++ element (0xC7 ∷ []) ids ++ (0xE8 ∷ shortest set)) 0 out n after →
    last ≡ output_after (behind n after) (sequence cs sp t source) → put_mid n (length after - n) after last ≡ output_after out (packaged cs sp t source kind ids)
unfolding sequence packaged
packages cs sp t source kind ids e few sized p l =
    let (os, h, k) = listed cs sp t source e in
    rw (h, ← parts kind ids os k few sized) (goes_behind (flatten os) p (rw h at l))

-- ---- the package where it is laid down
pub record Sized (ids : Octets) (set body whole : ℕ) : Type 0 where
  pub few : length ids < 128
  pub contents : body ≡ 2 + length ids + (1 + length (shortest set) + set)
  pub small : body < 65536
  pub all : whole ≡ 1 + length (shortest body) + body

pub sized : {ids : Octets} {set a b : ℕ} → length ids ≤ 8 → set ≤ 32768 → a ≡ field_size set → b ≡ field_size (3 + length ids + a + set) →
    Sized ids set (3 + length ids + a + set) (1 + b + (3 + length ids + a + set))
sized {ids} {set} {a} {b} h k e f =
    let i = L.small set e in
    record {
      few = omega arith;
      contents = omega (arith, L.size set (omega arith));
      small = omega arith;
      all = omega (arith, L.size (3 + length ids + a + set) (omega arith));
    }

module _ (cs : List Part) (sp : ℕ) (t : List ℕ) (source : Octets) (kind : ℕ) (ids out : Octets) {set body whole : ℕ}
    (e : written (sequence cs sp t source) ≡ accepted set) (z : Sized ids set body whole) where
  abbrev Lodged : (answer : Answer ℕ) (after : Octets) → Type 0
  Lodged = Outcome out (lodged cs sp t source kind ids (length out))

  lays : (os : List Octets) × (write_each cs sp t source ≡ accepted os) × (length (package_octets kind ids os) ≡ whole)
  lays =
      let (os, h, k) = listed cs sp t source e in
      (os, h, omega (arith, package_size kind ids os k z.few z.contents, z.all))

  pub too_long : 4096 < whole → Lodged (refused 15 whole) out
  unfolding lodged laid_down written output_after
  too_long h = let (os, f, g) = lays in rw (f, g, lt-leb whole 4096) (refl, refl)

  pub no_room : whole ≤ 4096 → length out < whole → Lodged (refused 17 whole) out
  unfolding lodged laid_down written output_after
  no_room h k = let (os, f, g) = lays in rw (f, g, le-leb whole 4096, lt-leb whole (length out)) (refl, refl)

  pub laid : whole ≤ 4096 → whole ≤ length out → {after : Octets} → after ≡ output_after out (packaged cs sp t source kind ids) → Lodged (accepted whole) after
  unfolding lodged laid_down packaged written
  laid h k l = let (os, f, g) = lays in rw (f, g, le-leb whole 4096, le-leb whole (length out)) (ap accepted (sym g), rw f at l)

-- ---- the writer
id_size_lem : (kind : ℕ) → id_size kind ≤ 8
unfolding id_size
id_size_lem kind = same (λ n. n ≤ 8) {x = kind} {y = 0xE1} {a = 0} (λ _. omega arith) λ _. less (λ n. n ≤ 8) {x = kind} {y = 0xE5} {a = 4} {b = 8} (λ _. omega arith) (λ _. omega arith)

-- what is asked before the components are weighed
module _ (o : D.Order) where
  pub short : length o.ids.now ≤ 8
  short = omega (arith, o.identified, id_size_lem o.kind)

  pub asked : {set : ℕ} → accepted set ≡ weighed_of o → (set ≤ 32768) × (written (sequence_of o) ≡ accepted set)
  unfolding weighed closing written
  asked {set} e =
      let (s, f, g) = taken (sequence_of o) (sym e) in
      let (_, _, h) = taken (carried_as o.kind 0 (map part_in o.components.now) o.specifiers) g in
      let k : 0 + length s ≡ set = cc in (
        omega (arith, at_most (map part_in o.components.now) o.specifiers o.table.now o.source.now f, length-map o.components.now part_in, o.few),
        rw f (ap accepted (omega arith)),
      )

  module _ (out : Octets) where
    abbrev Written : (answer : Answer ℕ) (after : Octets) → Type 0
    Written = Outcome out (writing_of o (length out))

    rest : writing_of o (length out) ≡
        (write_each (map part_in o.components.now) o.specifiers o.table.now o.source.now >>= λ os.
        carried_as o.kind 0 (map part_in o.components.now) o.specifiers >> laid_down o.kind o.ids.now os (length out))
    unfolding package_writing few
    rest =
        rw (
          le-leb tables_size (length o.table.now) o.tables,
          o.typed,
          eq-eqb (length o.ids.now) (id_size o.kind) o.identified,
          length-map o.components.now part_in,
          le-leb 1 (length o.components.now) o.some,
          le-leb (length o.components.now) 8 o.few,
        ) refl

    pub writes : {set : ℕ} → accepted set ≡ weighed_of o → {answer : Answer ℕ} {after : Octets} → Outcome out (lodged_of o (length out)) answer after →
        Written answer after
    unfolding weighed closing lodged
    writes e p =
        let (_, _, g) = taken (sequence_of o) (sym e) in
        let (_, f, _) = taken (carried_as o.kind 0 (map part_in o.components.now) o.specifiers) g in
        rw (rest, f) p

    pub refuses : {n d : ℕ} → refused n d ≡ weighed_of o → Written (refused n d) out
    unfolding weighed closing sequence written output_after
    refuses {n} {d} e =
        rw (rest, go (write_each (map part_in o.components.now) o.specifiers o.table.now o.source.now) (carried_as o.kind 0 (map part_in o.components.now) o.specifiers) e) (refl, refl)
      where
        go : (a : Answer (List Octets)) (b : Answer Unit) → refused n d ≡ ((a >>= λ os. accepted (flatten os)) >>= λ s. b >> accepted (0 + length s)) →
            (a >>= λ os. b >> laid_down o.kind o.ids.now os (length out)) ≡ refused n d
        go (accepted os) (accepted _) e = let z : ◌≡◌ {A = ℕ} 0 1 = cc in absurd (omega arith)
        go (accepted os) (refused _ _) e = cc
        go (refused _ _) b e = cc
