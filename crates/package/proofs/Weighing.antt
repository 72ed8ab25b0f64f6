-- The octets that components take: what is weighed of each, once, and the steps of `weigh`.
use Prim.Native.Nat.{ℕ, zero, suc, ◌+◌, ◌*◌, ◌/◌, ◌%◌, ◌<◌, ◌≤◌}
use mathlib.Core.Path.{◌≡◌, refl, sym, ap, ◌∙◌}
use mathlib.Core.Bool.{Bool, true, false}
use mathlib.Core.List.{List, [], ◌∷◌, ◌++◌, map, flatten}
use lib.ListN.{length, drop, get_or, set, length-append, length-set, drop_of_length-le}
use lib.Seq.{drop-cons, drop-drop, get_or-set_same, get_or-set_other}
use lib.Dec.{leb, eqb}
use borrow.Author.Count.{below_none, below_more}
use borrow.Author.Tests.{eq-eqb, ne_eqb, le-leb}
use borrow.Author.Rules.{part_to_end}
use native.Mathlib.Nat.{add-zero, add_assoc}
use native.Mathlib.Numerals.{add-one}
use native.Mathlib.Omega.{arith}
use Rattle.std.specs.Prelude.{Option, Some, None, ◌||◌}
use Rattle.std.specs.Option.{is_some}
use Rattle.std.specs.Int.{w64, to_le_bytes}
use native.Mathlib.Nat.{div-div-eq-div-mul}
use Rattle.element.specs.Octets.{Octets, if}
use Rattle.element.specs.Answer.{Answer, accepted, refused, ◌>>=◌, ◌>>◌, check}
use Rattle.element.specs.Output.{written}
use Rattle.element.proofs.Reading.{same}
use Rattle.component.specs.declared.Id as D
use Rattle.component.specs.declared.Code as E
use Rattle.component.specs.Table.{table_size, component_of}
use Rattle.component.specs.Composed.{composed}
use Rattle.component.specs.Needed.{octets_needed}
use Rattle.component.specs.Grammar.{Parameter}
use Rattle.component.specs.Composing.{entries_of, Sizes, sizes_of, measured, octets_of, composing}
use Rattle.component.proofs.Taken.{taken, passed}
use Rattle.component.proofs.Measuring.{ready}
use Rattle.component.proofs.Composition.{whole, short_set}
use Rattle.operation.specs.declared.summary.Outline as O
use Rattle.operation.specs.Judge.{judge}
use Rattle.operation.specs.Finding.{row_of}
use Rattle.operation.specs.Items.{items_of}
use Rattle.operation.specs.Codes.{operation_of}
use Rattle.operation.specs.Writing.{writing, weighing, weighing_sizes}
use Rattle.operation.specs.Model.{written_as}
use Rattle.operation.proofs.Counts.{written_short}
use Rattle.operation.proofs.Writer.{each, whole_weighed, whole_refused}
use Rattle.package.specs.Caller.{Part}
use Rattle.package.specs.Reading.{carries}
use Rattle.package.specs.Told.{part_in}
use Rattle.package.specs.Writing.{code_for, order_of, write_each, carried_as}
use Rattle.package.specs.inner.Weighed.{outline_for, sequence, weighed, left_at, Noted}
use Rattle.package.specs.inner.Leftover.{closing}
use Rattle.package.proofs.Fronting.{behind}

-- ---- what the component writer is handed
module _ (x given : ℕ) {o : O.Outline}
    (e : (o.kind ≡ (part_in x).kind) × (o.id ≡ (part_in x).id) × (o.code ≡ (part_in x).code) × (o.all ≡ (part_in x).count)) where
  abbrev with_code : E.Code → O.Outline
  with_code code = record { kind = o.kind; id = o.id; code = code; all = o.all }

  pub result_handed : o.kind ≡ 0xEA → with_code (record { first = given; second = o.code.second }) ≡ outline_for (part_in x) given
  unfolding code_for
  result_handed k = simp (eq-eqb _ 0xEA (sym e.0 ∙ k)) (cc)

  pub handed : (o.kind ≡ 0xEA → ⊥) → with_code o.code ≡ outline_for (part_in x) given
  unfolding code_for
  handed k = simp (ne_eqb _ 0xEA (λ j. k (e.0 ∙ j))) (rw (← e.0, ← e.1, ← e.2, ← e.3))

-- ---- one component
module _ (kind : ℕ) (id : D.Id) (code : E.Code) (count : ℕ) (t : List ℕ) (source : Octets) where
  -- what is weighed is counted of what is written into 4,096 octets
  pub weighs : written (writing kind id code count t source 4096) ≡ weighing kind id code count t source
  unfolding weighing writing octets_of written
  weighs =
      each (entries_of kind id count t source) _ _ length λ ps e.
      each (row_of kind code.first 0) _ _ length λ row _.
      each (judge row (items_of 0 ps)) _ _ length λ _ _.
      let r = ready kind id count t source e in
      rw (le-leb (octets_needed kind id.count ps) 4096 r.short) (ap accepted (whole kind id code ps r.allowed r.short))

  -- and composed as well, where there is room
  pub composes : {s : Octets} → writing kind id code count t source 4096 ≡ accepted s → {room : ℕ} → length s ≤ room →
      composing kind id code count t source room ≡ accepted s
  unfolding writing composing octets_of
  composes {s} e {room} h =
      let (ps, f, g) = taken (entries_of kind id count t source) e in
      let (row, _, i) = taken (row_of kind code.first 0) g in
      let (_, _, j) = taken (judge row (items_of 0 ps)) i in
      let (_, k) = passed (leb (octets_needed kind id.count ps) 4096) 17 (octets_needed kind id.count ps) j in
      let r = ready kind id count t source f in
      let l : composed (component_of kind id code ps) ≡ s = cc in
      rw (f, le-leb (octets_needed kind id.count ps) room (omega (arith, ap length l, whole kind id code ps r.allowed r.short))) k

  -- the parameters with which something was done once the row had accepted them
  listed : {A : Type 0} {y : A} (work : List Parameter → Answer A) →
      (entries_of kind id count t source >>= λ ps. row_of kind code.first 0 >>= λ row. judge row (items_of 0 ps) >>= λ _. work ps) ≡ accepted y →
      (ps : List Parameter) × (entries_of kind id count t source ≡ accepted ps) × (work ps ≡ accepted y)
  listed work e =
      let (ps, f, g) = taken (entries_of kind id count t source) e in
      let (row, _, h) = taken (row_of kind code.first 0) g in
      let (_, _, i) = taken (judge row (items_of 0 ps)) h in
      (ps, f, i)

  pub few_octets : {z : Sizes} → accepted z ≡ weighing_sizes kind id code count t source → (z.whole ≤ 4096) × (z.set ≤ 4096)
  unfolding weighing_sizes
  few_octets {z} e =
      let (ps, f, g) = listed (λ ps. accepted (sizes_of kind id.count ps)) (sym e) in
      let s = (ready kind id count t source f).short in
      let k : sizes_of kind id.count ps ≡ z = cc in
      rw (← k) (s, short_set kind id.count ps s)

  -- as it was measured
  pub measures : {z : Sizes} → weighing_sizes kind id code count t source ≡ accepted z → measured kind id count t source ≡ accepted z
  unfolding weighing_sizes measured
  measures e = let (ps, f, g) = listed (λ ps. accepted (sizes_of kind id.count ps)) e in rw f g

-- ---- the components
-- one, and those behind it
pub split : (c : Part) (cs : List Part) (sp : ℕ) (t : List ℕ) (source : Octets) → sequence (c ∷ cs) sp t source ≡
    (written_as (order_of c (sp % 256) t source) 4096 >>= λ o. sequence cs (sp / 256) (drop table_size t) source >>= λ s. accepted (o ++ s))
unfolding sequence write_each flatten
split c cs sp t source =
    each (written_as (order_of c (sp % 256) t source) 4096) _ _ flatten λ o _.
    each (write_each cs (sp / 256) (drop table_size t) source) _ _ flatten (λ os _. refl)
    ∙ sym (each (write_each cs (sp / 256) (drop table_size t) source) _ _ (λ s. o ++ s) (λ os _. refl))

-- each has at most 4,096 octets
pub at_most : (cs : List Part) (sp : ℕ) (t : List ℕ) (source : Octets) {s : Octets} → sequence cs sp t source ≡ accepted s → length s ≤ 4096 * length cs
unfolding sequence write_each flatten written
at_most [] sp t source {s} e = let f : [] ≡ s = cc in rw (← f) (omega arith)
at_most (c ∷ cs) sp t source {s} e =
    let (o, f, g) = taken (written_as (order_of c (sp % 256) t source) 4096) (sym (split c cs sp t source) ∙ e) in
    let (r, h, i) = taken (sequence cs (sp / 256) (drop table_size t) source) g in
    let j : o ++ r ≡ s = cc in
    rw (← j) (simp length-append (omega (arith, at_most cs (sp / 256) (drop table_size t) source h, written_short _ _ _ _ _ _ 4096 (sym (ap written f)))))

-- 24 of one that is not carried comes behind what the others are refused for
told_later : (wrong : Option ℕ) (i n : ℕ) (b : Bool) (r : Answer Unit) →
    (closing wrong >> (check b 24 i >> r >> accepted n)) ≡ (closing (if (is_some wrong || b) wrong (Some i)) >> (r >> accepted n))
unfolding closing
told_later None i n true r = refl
told_later None i n false r = refl
told_later (Some j) i n b r = refl

-- Table 2 looks at the same of a component and of what the writer is handed
handed_carries : (packet kind code given : ℕ) → carries packet kind (if (eqb kind 0xEA) given code) given ≡ carries packet kind code given
unfolding carries operation_of
handed_carries packet kind code given = same (λ x. carries packet kind x given ≡ carries packet kind code given) {x = kind} {y = 0xEA} {a = given} (λ e. rw e refl) (λ _. refl)

-- ---- the steps of `weigh`
module _ (sp : ℕ) (t : List ℕ) (source : Octets) (packet i : ℕ) (wrong : Option ℕ) (sum : ℕ) where
  none_left : weighed [] sp t source packet i wrong sum ≡ (closing wrong >> accepted sum)
  unfolding weighed sequence write_each carried_as flatten
  none_left = simp add-zero

  module _ (x : ℕ) (xs : List ℕ) {o : O.Outline} (told : o ≡ outline_for (part_in x) (sp % 256)) where
    step : {w : Option ℕ} → w ≡ if (is_some wrong || carries packet o.kind o.code.first (sp % 256)) wrong (Some i) →
        weighed (map part_in (x ∷ xs)) sp t source packet i wrong sum ≡
        (weighing o.kind o.id o.code o.all t source >>= λ n. weighed (map part_in xs) (sp / 256) (drop table_size t) source packet (i + 1) w (sum + n))
    unfolding code_for weighed written carried_as
    step {w} f =
        rw (told, ← weighs, split (part_in x) (map part_in xs) sp t source)
        (go (written_as (order_of (part_in x) (sp % 256) t source) 4096) (sequence (map part_in xs) (sp / 256) (drop table_size t) source))
      where
        go : (a b : Answer Octets) →
            ((a >>= λ o. b >>= λ s. accepted (o ++ s)) >>= λ s. closing wrong >> (carried_as packet i (part_in x ∷ map part_in xs) sp >> accepted (sum + length s)))
            ≡ ((a >>= λ s. accepted (length s)) >>= λ n. b >>= λ s. closing w >> (carried_as packet (i + 1) (map part_in xs) (sp / 256) >> accepted (sum + n + length s)))
        go (accepted o) (accepted s) = rw (length-append, ← add_assoc) (told_later wrong i (sum + length o + length s) (carries packet (part_in x).kind (part_in x).code.first (sp % 256)) (carried_as packet (i + 1) (map part_in xs) (sp / 256)) ∙ rw (← rw (told, handed_carries) at f))
        go (accepted o) (refused n d) = refl
        go (refused n d) b = refl

    first_refused : {n d : ℕ} → refused n d ≡ weighing_sizes o.kind o.id o.code o.all t source → weighed (map part_in (x ∷ xs)) sp t source packet i wrong sum ≡ refused n d
    first_refused e = step refl ∙ rw (← whole_refused _ _ _ _ _ _ e)

    first_weighed : {z : Sizes} → accepted z ≡ weighing_sizes o.kind o.id o.code o.all t source →
        {w : Option ℕ} → w ≡ if (is_some wrong || carries packet o.kind o.code.first (sp % 256)) wrong (Some i) →
        weighed (map part_in (x ∷ xs)) sp t source packet i wrong sum ≡
        weighed (map part_in xs) (sp / 256) (drop table_size t) source packet (i + 1) w (sum + z.whole)
    first_weighed e f = step f ∙ rw (← whole_weighed _ _ _ _ _ _ e)

-- the specifier of component `i` is octet `i` of the eight
pub given_at : (i n : ℕ) → i < 8 → get_or (to_le_bytes w64 n) i 0 ≡ left_at i n % 256
unfolding left_at
given_at zero n h = refl
given_at (suc zero) n h = refl
given_at (suc (suc zero)) n h = simp div-div-eq-div-mul
given_at (suc (suc (suc zero))) n h = simp div-div-eq-div-mul
given_at (suc (suc (suc (suc zero)))) n h = simp div-div-eq-div-mul
given_at (suc (suc (suc (suc (suc zero))))) n h = simp div-div-eq-div-mul
given_at (suc (suc (suc (suc (suc (suc zero)))))) n h = simp div-div-eq-div-mul
given_at (suc (suc (suc (suc (suc (suc (suc zero))))))) n h = simp div-div-eq-div-mul
given_at (suc (suc (suc (suc (suc (suc (suc (suc i)))))))) n h = absurd (omega arith)

pub left_more : (i n : ℕ) → left_at (i + 1) n ≡ left_at i n / 256
unfolding left_at
left_more i n = rw add-one refl

-- behind `i` components: what is left to be weighed is what is weighed of all, and those components are noted
pub record Going (xs : List ℕ) (sp : ℕ) (t : List ℕ) (source : Octets) (packet i : ℕ) (wrong : Option ℕ) (sum : ℕ) (sets : List ℕ) : Type 0 where
  pub rest : weighed (map part_in (drop i xs)) (left_at i sp) (drop (table_size * i) t) source packet i wrong sum ≡ weighed (map part_in xs) sp t source packet 0 None 0
  pub long : length sets ≡ 8
  pub noted : Noted xs sp t source i sets

module _ {xs : List ℕ} {sp : ℕ} {t : List ℕ} {source : Octets} {packet : ℕ} {sets : List ℕ} where
  pub begun : length sets ≡ 8 → Going xs sp t source packet 0 None 0 sets
  unfolding left_at
  begun e = record { rest = refl; long = e; noted = below_none _ }

  module _ {i : ℕ} {wrong : Option ℕ} {sum : ℕ} (g : Going xs sp t source packet i wrong sum sets) where
    pub all_wrong : length xs ≤ i → {j : ℕ} → wrong ≡ Some j → refused 24 j ≡ weighed (map part_in xs) sp t source packet 0 None 0
    unfolding closing
    all_wrong h {j} k =
        let none : drop i xs ≡ [] = drop_of_length-le xs {i = i} h in
        sym (rw k at (none_left (left_at i sp) (drop (table_size * i) t) source packet i wrong sum)) ∙ rw (none, k) at g.rest

    pub all_weighed : length xs ≤ i → wrong ≡ None → (accepted sum ≡ weighed (map part_in xs) sp t source packet 0 None 0) × Noted xs sp t source (length xs) sets
    unfolding closing
    all_weighed h k =
        let none : drop i xs ≡ [] = drop_of_length-le xs {i = i} h in
        (sym (rw k at (none_left (left_at i sp) (drop (table_size * i) t) source packet i wrong sum)) ∙ rw (none, k) at g.rest, λ j l. g.noted j (omega arith))

    module _ (h : i < length xs) (few : i < 8) {given : ℕ} (is : given ≡ get_or (to_le_bytes w64 sp) i 0)
        {o : O.Outline} (told : o ≡ outline_for (part_in (get_or xs i 0)) given) where
      first : drop i xs ≡ get_or xs i 0 ∷ drop (i + 1) xs
      first = rw (add-one, drop-cons xs i 0)

      so : given ≡ left_at i sp % 256
      so = is ∙ given_at i sp few

      pub refuses_all : {n d : ℕ} → refused n d ≡ weighing_sizes o.kind o.id o.code o.all (behind (table_size * i) t) source →
          refused n d ≡ weighed (map part_in xs) sp t source packet 0 None 0
      refuses_all e =
          sym (first_refused (left_at i sp) (drop (table_size * i) t) source packet i wrong sum (get_or xs i 0) (drop (i + 1) xs) (rw so at told)
          (rw (part_to_end t (table_size * i)) at e)) ∙ rw first at g.rest

      pub goes_on : {z : Sizes} → accepted z ≡ weighing_sizes o.kind o.id o.code o.all (behind (table_size * i) t) source →
          {w : Option ℕ} → w ≡ if (is_some wrong || carries packet o.kind o.code.first given) wrong (Some i) →
          Going xs sp t source packet (i + 1) w (sum + z.whole) (set sets i z.set)
      goes_on {z} e f =
          let w = rw (part_to_end t (table_size * i)) at e in
          let u = first_weighed (left_at i sp) (drop (table_size * i) t) source packet i wrong sum (get_or xs i 0) (drop (i + 1) xs) (rw so at told) w (rw so at f) in
          let m : table_size * i + table_size ≡ table_size * (i + 1) = omega arith in
          record {
            rest = rw (left_more i sp) (sym (rw (drop-drop table_size (table_size * i) t, m) at u) ∙ rw first at g.rest);
            long = rw length-set g.long;
            noted = below_more _ i
                (λ j l. let (y, a, b) = g.noted j l in (y, a, get_or-set_other sets i j z.set 0 (λ q. omega arith) ∙ b))
                (z, sym (rw (told, so) at w), get_or-set_same sets i z.set 0 (omega (arith, g.long)));
          }
