-- What the paper's list shuts out: none of these satisfies the demands, since each differs from ours on one input.
use Prim.Native.Nat.{ℕ, zero, suc, ◌+◌, ◌%◌, ◌<◌, ◌≤◌}
use mathlib.Core.Path.{◌≡◌, refl, sym, ap, subst, ◌∙◌}
use mathlib.Core.Bool.{Bool, true, ◌&&◌, true≢false}
use mathlib.Core.List.{List, [], ◌∷◌, ◌++◌, append-nil, map}
use mathlib.Core.Logic.{inr}
use lib.ListN.{length, get_or, drop, replicate}
use lib.Dec.{ltb}
use borrow.Author.Tests.{ne_eqb, ltb-true}
use native.Mathlib.Nat.{add-zero, zero-add}
use native.Mathlib.Decide.{dec_le}
use native.Mathlib.Omega.{arith}
use Rattle.element.specs.Octets.{Octets, AreOctets}
use Rattle.element.specs.Answer.{Answer, accepted, refused}
use Rattle.element.specs.Length.{LengthField, shortest, field_size}
use Rattle.element.specs.Identifier.{IdentifierField, identifier, identifier_size}
use Rattle.element.proofs.IdentifierLaws.{no_longer_run}
use Rattle.component.specs.Table.{Entry, width, table_size, table_with, held, held_from, parameter_of, id_octets, written_code, component_of}
use Rattle.component.specs.Grammar.{Parameter, Component, Element, Coded, Laid}
use Rattle.component.specs.Shortest.{Shortest}
use Rattle.component.proofs.Deciding.{ask}
use Rattle.component.proofs.Shortening.{shorter}
use Rattle.component.specs.Faults.{overrun, ended, left, InSet, NoSet, NoCode, NoBody, Whole, Faulty, LaidOut}
use Rattle.component.specs.Standing.{standing}
use Rattle.component.specs.Part.{fits}
use Rattle.component.specs.Composed.{element, set_of, code_element, composed}
use Rattle.component.specs.Composing.{entry_stands, taken_from, entries_from, entries_of, octets_of}
use Rattle.element.specs.Output.{written, output_after}
use Rattle.component.specs.Types.{coding_of, Typed, Allowed, format_of, typed, id_fits}
use Rattle.component.specs.Needed.{element_size, set_size, coding_size, body_size, octets_needed}
use Rattle.operation.specs.Row.{Row, Item, key, number_of, members, some_of, among, on_line, asks, named, named as names, repeats, allows}
use Rattle.operation.specs.Judge.{occurs, last_mark, once, sized, met, present, doubled, single, judge, count_named}
use Rattle.operation.specs.Rows.{fixed, sizes_in, sizes, operations}
use Rattle.operation.specs.Finding.{find, rowed, row_of}
use Rattle.operation.specs.Items.{item_of, items_of}
use Rattle.operation.specs.Book.{keys_of, none, Once}
use Rattle.operation.specs.Faults.{First, Missized, missized}
use Rattle.operation.specs.Codes.{told_code}
use Rattle.operation.specs.Writing.{writing}
use Rattle.operation.specs.Caller.{Read, read, Told, Reader, Order, Writer}
use Rattle.operation.specs.Demands.{key_of, Rowed, RowFor, unasked, its_operation, tally, ReaderRefuses, tells, handed, Joined, done, kept, Truthful, Demands}
use Rattle.operation.specs.Model.{reader, writer, OnlyOne}
use Rattle.operation.specs.Charts.{Chart, zeros, reads, expected, starred, living}
use Rattle.operation.proofs.Charts.{charts, rows_live}
use Rattle.operation.proofs.Lines.{each, each_of}
use Rattle.operation.proofs.OnlyOne.{reader_refuses, refused_so, only_one}

-- octets, by one test over them
abbrev pub below : Octets → Bool
below [] = true
below (x ∷ s) = ltb x 256 && below s

pub are_octets : (s : Octets) → below s ≡ true → AreOctets s
are_octets [] e i = omega arith
are_octets (x ∷ s) e zero = ltb-true x 256 (each (ltb x 256) (below s) e).0
are_octets (x ∷ s) e (suc i) = are_octets s (each (ltb x 256) (below s) e).1 i

-- what ours says of a chart, and what it leaves
abbrev at : ℕ → List Read → Read
at i rs = get_or rs i (record { answer = refused 0 0; table = [] })

abbrev charted : ℕ → Chart
charted i = get_or living i (record { octets = []; specifier = 0; read = at i [] })

abbrev chart : Octets
chart = 0xEA ∷ 0x07 ∷ 0xCF ∷ 0x01 ∷ 0x05 ∷ 0xF2 ∷ 0x02 ∷ 0x85 ∷ 0x00 ∷ []

shown : reader chart 4 zeros ≡ at 3 (map expected starred)
shown = ap (at 3) charts

shown_other : reader chart 26 zeros ≡ at 4 (map expected starred)
shown_other = ap (at 4) charts

shown_rowless : reader chart 0 zeros ≡ at 5 (map expected starred)
shown_rowless = ap (at 5) charts

shown_empty : reader [] 0 zeros ≡ at 7 (map expected starred)
shown_empty = ap (at 7) charts

abbrev two : Octets
two = 0xEA ∷ 0x09 ∷ 0xCF ∷ 0x01 ∷ 0x05 ∷ 0xF2 ∷ 0x04 ∷ 0x85 ∷ 0x00 ∷ 0x87 ∷ 0x00 ∷ []

shown_two : reader two 4 zeros ≡ at 3 (map expected living)
shown_two = ap (at 3) rows_live

-- a REJECT with the problem octets 02 03
abbrev reject : Octets
reject = 0xEC ∷ 0x0A ∷ 0xCF ∷ 0x00 ∷ 0xD5 ∷ 0x02 ∷ 0x02 ∷ 0x03 ∷ 0xF2 ∷ 0x02 ∷ 0x89 ∷ 0x00 ∷ []

chart_octets : AreOctets chart
chart_octets = are_octets chart refl

two_octets : AreOctets two
two_octets = are_octets two refl

abbrev order : Order
order = record { kind = 0xEA; id = record { count = 1; first = 5; second = 0 }; code = record { first = 4; second = 0 }; count = 1; table = 5 ∷ 0 ∷ 0 ∷ 0 ∷ 0 ∷ []; source = [] }

composed_so : writer order (replicate 9 0) ≡ record { answer = accepted 9; output = chart }
unfolding shortest field_size identifier identifier_size key number_of members some_of among on_line asks named repeats allows fixed sizes_in sizes occurs last_mark once sized met present doubled single judge count_named operations find rowed row_of format_of typed element set_of code_element composed fits held_from parameter_of entry_stands taken_from element_size set_size coding_size body_size octets_needed id_fits id_octets written_code component_of entries_of octets_of written output_after items_of writing
composed_so = refl

-- an entry but for its place
abbrev pub unplaced : Entry → Entry
unplaced e = record { number = e.number; form = e.form; start = e.start; size = e.size; place = 0 }

place_unread : (i : ℕ) (source : Octets) (es : List Entry) → taken_from i source (map unplaced es) ≡ taken_from i source es
unfolding taken_from entry_stands parameter_of
place_unread i source [] = refl
place_unread i source (e ∷ es) = rw (place_unread (i + 1) source es)

abbrev number : Answer Told → ℕ
number (accepted x) = 0
number (refused n d) = n

pub no_newcomer : (row : Row) (ps : List Parameter) → Joined row ps ps
no_newcomer row [] = done
no_newcomer row (p ∷ ps) = kept p (no_newcomer row ps)

module _ (r : Reader) (w : Writer) (d : Demands r w) where
  ours_is : (s : Octets) (given : ℕ) (t : List ℕ) → AreOctets s → r s given t ≡ reader s given t
  unfolding OnlyOne
  ours_is = (only_one r w d).0

  -- chart `i` of `living` is read as it says
  abbrev pub Reads : ℕ → Type 0
  Reads i = r (charted i).octets (charted i).specifier zeros ≡ (charted i).read

  as_charted : (i : ℕ) → below (charted i).octets ≡ true → reads (charted i) ≡ (charted i).read → Reads i
  as_charted i o e = ours_is (charted i).octets (charted i).specifier zeros (are_octets (charted i).octets o) ∙ e

  pub not_always_refusing : ((s : Octets) (given : ℕ) (t : List ℕ) → (n : ℕ) × (e : ℕ) × ((r s given t).answer ≡ refused n e)) → ⊥
  not_always_refusing h =
      let (n, e, p) = h chart 4 zeros in
      let q = ap (λ x. x.answer) (ours_is chart 4 zeros chart_octets ∙ shown) in
      let z : ◌≡◌ {A = ℕ} 0 1 = cc in
      omega arith

  pub not_filling_nothing : ((s : Octets) (given : ℕ) (t : List ℕ) → (r s given t).table ≡ t) → ⊥
  not_filling_nothing h =
      let q = ap (λ x. x.table) (ours_is chart 4 zeros chart_octets ∙ shown) in
      let p : ◌≡◌ {A = List ℕ} zeros (5 ∷ 0 ∷ 9 ∷ 0 ∷ 7 ∷ replicate 315 0) = sym (h chart 4 zeros) ∙ q in
      let z : ◌≡◌ {A = ℕ} 0 5 = ap (λ t. get_or t 0 0) p in
      omega arith

  pub not_constant : (a : Answer Told) → ((s : Octets) (given : ℕ) (t : List ℕ) → (r s given t).answer ≡ a) → ⊥
  not_constant a h =
      let p = h chart 4 zeros in
      let q = ap (λ x. x.answer) (ours_is chart 4 zeros chart_octets ∙ shown) in
      let u = h [] 0 zeros in
      let v = ap (λ x. x.answer) (ours_is [] 0 zeros (are_octets [] refl) ∙ shown_empty) in
      let z : ◌≡◌ {A = ℕ} 0 1 = cc in
      omega arith

  pub not_only_the_first : ((s : Octets) (given : ℕ) (t : List ℕ) → drop width (r s given t).table ≡ drop width t) → ⊥
  not_only_the_first h =
      let q = ap (λ x. drop width x.table) (ours_is two 4 zeros two_octets ∙ shown_two) in
      let z : ◌≡◌ {A = ℕ} 7 0 = ap (λ t. get_or t 0 0) (sym q ∙ h two 4 zeros) in
      omega arith

  pub not_invented : (n : ℕ) → ((s : Octets) (given : ℕ) (t : List ℕ) (x : Told) → (r s given t).answer ≡ accepted x → x.named ≡ n) → ⊥
  not_invented n h =
      let p = h chart 4 zeros _ (ap (λ x. x.answer) (ours_is chart 4 zeros chart_octets ∙ shown)) in
      let q = h chart 26 zeros _ (ap (λ x. x.answer) (ours_is chart 26 zeros chart_octets ∙ shown_other)) in
      omega arith

  -- the verdict on the same octets hangs on the operation
  pub not_one_verdict : (n : ℕ) → ((given : ℕ) → number (r chart given zeros).answer ≡ n) → ⊥
  not_one_verdict n h =
      let p = ap (λ x. number x.answer) (ours_is chart 4 zeros chart_octets ∙ shown) in
      let q = ap (λ x. number x.answer) (ours_is chart 0 zeros chart_octets ∙ shown_rowless) in
      let a = h 4 in
      let b = h 0 in
      let z : ◌≡◌ {A = ℕ} 0 11 = cc in
      omega arith

  -- ---- the fifth number
  pub not_where_contents_start : ((s : Octets) (given : ℕ) (t : List ℕ) → (held (r s given t).table 0).place ≡ (held (r s given t).table 0).start) → ⊥
  not_where_contents_start h =
      let q = ap (λ x. x.table) (ours_is chart 4 zeros chart_octets ∙ shown) in
      let z : ◌≡◌ {A = ℕ} 7 9 = rw q at (h chart 4 zeros) in
      omega arith

  pub not_of_the_one_before : ((s : Octets) (given : ℕ) (t : List ℕ) → (held (r s given t).table 1).place ≡ (held (r s given t).table 0).place) → ⊥
  not_of_the_one_before h =
      let q = ap (λ x. x.table) (ours_is two 4 zeros two_octets ∙ shown_two) in
      let z : ◌≡◌ {A = ℕ} 9 7 = rw q at (h two 4 zeros) in
      omega arith

  -- a table of 256 numbers too
  pub short_table_refused : (s : Octets) (given : ℕ) (t : List ℕ) → AreOctets s → length t < table_size → r s given t ≡ read (refused 1 0) t
  short_table_refused s given t o h = ours_is s given t o ∙ refused_so s o given t (reader_refuses s o given t (ReaderRefuses.table h))

  pub not_by_the_place : (o : Order) (t : List ℕ) (out : Octets) → length t ≡ length o.table →
      map unplaced (held_from 0 o.count t) ≡ map unplaced (held_from 0 o.count o.table) →
      w (record { kind = o.kind; id = o.id; code = o.code; count = o.count; table = t; source = o.source }) out ≡ w o out
  unfolding OnlyOne writing entries_of
  not_by_the_place o t out l e =
      let f : entries_from 0 o.count t o.source ≡ entries_from 0 o.count o.table o.source =
      sym (place_unread 0 o.source _) ∙ rw e (place_unread 0 o.source _) in
      (only_one r w d).1 _ out ∙ rw (f, l) (sym ((only_one r w d).1 o out))

  -- ---- errors and rejects: their layout is the whole verdict, and nothing is named
  pub layout_is_the_verdict : (s : Octets) (given : ℕ) (t : List ℕ) {c : Component} → AreOctets s → table_size ≤ length t → (h : LaidOut c s) →
      (Rowed c.kind → ⊥) → r s given t ≡ read (accepted (tells given c [])) (table_with (standing h.laid) t)
  unfolding names
  layout_is_the_verdict s given t o enough h n =
      d.second.shown s given t o (record { enough = enough; laid_out = h; has_row = unasked n; fits = record { kept = none; once = λ k e. absurd (true≢false (sym e)); sized = each_of _ _ λ x _ e. absurd (true≢false (sym e)) } })

  pub nothing_named : (given : ℕ) (c : Component) → (tells given c []).named ≡ 0
  unfolding tally names
  nothing_named given c = go (map key_of c.parameters)
    where
      go : (ks : List ℕ) → tally (names []) ks ≡ 0
      go [] = refl
      go (k ∷ ks) = go ks

  -- what the caller hands in plays no part, neither in the verdict nor in what is told
  pub specifier_unread : (s : Octets) (given other : ℕ) (t : List ℕ) {c : Component} → AreOctets s → table_size ≤ length t → LaidOut c s →
      (Rowed c.kind → ⊥) → r s given t ≡ r s other t
  unfolding told_code
  specifier_unread s given other t {c} o enough h n =
      layout_is_the_verdict s given t o enough h n ∙ ap (λ x. read (accepted x) (table_with (standing h.laid) t)) (same_told n) ∙ sym (layout_is_the_verdict s other t o enough h n)
    where
      same_told : (Rowed c.kind → ⊥) → tells given c [] ≡ tells other c []
      same_told n = rw (ne_eqb c.kind 0xEA (λ e. n (inr e)))

  pub problems_in_order : {x : Told} → (r reject 13 zeros).answer ≡ accepted x → x.code ≡ record { first = 2; second = 3 }
  problems_in_order e =
      let p = ap (λ x. x.answer) (ours_is reject 13 zeros (are_octets reject refl) ∙ ap (at 40) rows_live) in
      ap (λ x. x.code) (same (sym e ∙ p))
    where
      same : {x y : Told} → ◌≡◌ {A = Answer Told} (accepted x) (accepted y) → x ≡ y
      same q = cc

  pub two_in_a_reject_refused : Reads 41
  two_in_a_reject_refused = as_charted 41 refl (ap (at 41) rows_live)

  -- 25 where the parent has ended, before 21 can be asked
  pub ended_before_the_code : Reads 38
  ended_before_the_code = as_charted 38 refl (ap (at 38) rows_live)

  -- ---- 5, 20 and 25, over any octets: of any type, and with lengths of any form
  module _ (given : ℕ) (t : List ℕ) (enough : table_size ≤ length t) where
    refuses_so : {s : Octets} {kind n d : ℕ} → AreOctets s → length s ≤ 4096 → Typed kind → Whole kind s n d → r s given t ≡ read (refused n d) t
    refuses_so {s} o short k f =
        ours_is s given t o ∙ refused_so s o given t (reader_refuses s o given t (ReaderRefuses.fault enough (Faulty.whole short k f)))

    -- of the type's element: contents that run past the octets are 5 at 0, octets behind it 20 at the first of them, and
    -- nothing in it, where the component ID is wanted, 25 at the end
    pub overrun_is_5 : {kind n : ℕ} {field : Octets} (rest : Octets) → let s = kind ∷ (field ++ rest) in AreOctets s → length s ≤ 4096 →
        Typed kind → LengthField n field → length rest < n → r s given t ≡ read (refused 5 0) t
    overrun_is_5 rest o short k f h = refuses_so o short k (Whole.unheld (overrun rest f h))

    pub left_over_is_20 : {kind : ℕ} {body e : Octets} (a : ℕ) (rest : Octets) → let s = e ++ (a ∷ rest) in AreOctets s → length s ≤ 4096 →
        Typed kind → Element (kind ∷ []) body e → r s given t ≡ read (refused 20 (length e)) t
    left_over_is_20 {e = e} a rest o short k l = rw (zero-add (length e)) at (refuses_so o short k (Whole.left_over (left a rest l)))

    pub ended_is_25 : {kind : ℕ} {field : Octets} → let s = kind ∷ field in AreOctets s → length s ≤ 4096 → Typed kind → LengthField 0 field →
        r s given t ≡ read (refused 25 (1 + length field)) t
    ended_is_25 {kind} {field} o short k f =
        let h : Whole kind (kind ∷ (field ++ [])) 25 (1 + length field) = Whole.inside f (NoBody.unfound ended) in
        refuses_so o short k (rw (append-nil field) at h)

    -- behind the component ID and the code of a component these octets are refused with this number, so far behind
    abbrev pub BehindTheCode : Octets → (number behind : ℕ) → Type 0
    BehindTheCode u n d = (kind : ℕ) (field id i code c : Octets) → let body = i ++ (c ++ u) in let s = kind ∷ (field ++ body) in
        AreOctets s → length s ≤ 4096 → Typed kind → LengthField (length body) field → Element (0xCF ∷ []) id i → Allowed kind (length id) →
        Coded (coding_of kind) code c → r s given t ≡ read (refused n (1 + length field + length i + length c + d)) t

    behind_the_code : {u : Octets} {n : ℕ} (d : ℕ) → ((at : ℕ) → NoSet at u n (at + d)) → BehindTheCode u n d
    behind_the_code d f kind field id i code c o short k l j w m = refuses_so o short k (Whole.inside l (NoBody.behind j w (NoCode.behind m (f _))))

    -- of the set: contents of its first parameter that run past it, octets behind it, and nothing where it is wanted
    pub overrun_in_the_set : {number form n : ℕ} {sized head field : Octets} (rest : Octets) → let set = head ++ (field ++ rest) in
        LengthField (length set) sized → IdentifierField number form head → LengthField n field → length rest < n →
        BehindTheCode (0xF2 ∷ (sized ++ set)) 5 (1 + length sized)
    overrun_in_the_set rest m p f h = behind_the_code _ (λ at. NoSet.inside m (InSet.unheld p (overrun rest f h)))

    pub left_behind_the_set : {set e : Octets} (a : ℕ) (rest : Octets) → Element (0xF2 ∷ []) set e → BehindTheCode (e ++ (a ∷ rest)) 20 (length e)
    left_behind_the_set a rest l = behind_the_code _ (λ at. NoSet.left_over (left a rest l))

    pub ended_before_the_set : BehindTheCode [] 25 0
    ended_before_the_set = behind_the_code 0 (λ at. subst (λ d. NoSet at [] 25 d) (sym (add-zero at)) (NoSet.unfound ended))

    -- a number over 16,383 would take a longer run: of the set's first parameter that is 9 at its place
    pub longer_run_is_9 : (a b c : ℕ) {sized : Octets} (rest : Octets) → let set = a ∷ b ∷ c ∷ rest in LengthField (length set) sized →
        a % 32 ≡ 31 → 128 ≤ b → 128 ≤ c → BehindTheCode (0xF2 ∷ (sized ++ set)) 9 (1 + length sized)
    longer_run_is_9 a b c rest m h k l = behind_the_code _ (λ at. NoSet.inside m (InSet.no_identifier λ number form head s i. no_longer_run s i h k l))

  -- ---- padded lengths
  pub leading_zero_taken : Reads 44
  leading_zero_taken = as_charted 44 refl (ap (at 44) rows_live)

  pub form_80_refused : Reads 48
  form_80_refused = as_charted 48 refl (ap (at 48) rows_live)

  pub padding_not_copied : (s : Octets) (given : ℕ) (t : List ℕ) (out : Octets) {x : Told} {c : Component} → AreOctets s → (r s given t).answer ≡ accepted x →
      (h : Laid c s) → length s ≤ length out → (Shortest h → ⊥) → (n : ℕ) × ((w (handed x (r s given t).table s) out).answer ≡ accepted n) × (n < length s)
  padding_not_copied s given t out {c = c} o e h room n =
      let fewer : length (composed c) < length s = ask (dec_le (length s) (length (composed c))) (λ l. absurd (n ((shorter h).as_long l))) (λ m. omega arith) in
      (length (composed c), ap (λ x. x.answer) (d.second.read_then_write s given t out o e h room).composes, fewer)

  -- the same component in other lengths: demand 3 without a newcomer asks for no form of any length
  pub lengths_change_nothing : (given : ℕ) (c : Component) (s u : Octets) (t : List ℕ) {row : Row} → AreOctets s → AreOctets u → table_size ≤ length t →
      (h : LaidOut c s) (k : LaidOut c u) → RowFor c.kind (its_operation c given) row →
      Truthful h.laid k.laid (no_newcomer row c.parameters) t (r s given t) (r u given t)
  lengths_change_nothing given c s u t {row} o b enough h k e = d.third.truthful given c c s u t o b enough h k refl refl refl e (no_newcomer row c.parameters)

  -- ---- groups, each by one page; `Groups` has what holds of any run
  -- ESN and all of the group are missing
  pub group_asked_last : Reads 56
  group_asked_last = as_charted 56 refl (ap (at 56) rows_live)

  pub group_gives_its_first : Reads 55
  group_gives_its_first = as_charted 55 refl (ap (at 55) rows_live)

  pub several_taken : Reads 54
  several_taken = as_charted 54 refl (ap (at 54) rows_live)

  -- NetworkTMSI alone: named, and none is other
  pub network_tmsi_named : Reads 53
  network_tmsi_named = as_charted 53 refl (ap (at 53) rows_live)

  -- the three members as constructors
  pub twins_are_others : Reads 57
  twins_are_others = as_charted 57 refl (ap (at 57) rows_live)

  -- ---- sizes: of any component that is laid out and has nothing again, 26 at the earliest of a wrong size, whatever is missing; `Sized` has what holds
  -- of any run, and the charts one case each
  pub wrong_size_is_26 : (s : Octets) (given : ℕ) (t : List ℕ) {c : Component} {row : Row} {x : Item} → AreOctets s → table_size ≤ length t → (h : LaidOut c s) →
      RowFor c.kind (its_operation c given) row → let xs = map item_of (standing h.laid) in Once row (keys_of xs) → First (Missized row) xs x →
      r s given t ≡ read (refused 26 x.mark) t
  wrong_size_is_26 s given t o enough h e once f = ours_is s given t o ∙ refused_so s o given t (reader_refuses s o given t (ReaderRefuses.misfit enough h e (missized once f)))

  pub three_octets_of_channel_data_taken : Reads 77
  three_octets_of_channel_data_taken = as_charted 77 refl (ap (at 77) rows_live)

  pub again_before_a_wrong_size : Reads 78
  again_before_a_wrong_size = as_charted 78 refl (ap (at 78) rows_live)

  pub wrong_size_before_missing : Reads 79
  wrong_size_before_missing = as_charted 79 refl (ap (at 79) rows_live)

  pub wrong_size_before_both : Reads 80
  wrong_size_before_both = as_charted 80 refl (ap (at 80) rows_live)

  pub at_the_earliest_wrong_size : Reads 81
  at_the_earliest_wrong_size = as_charted 81 refl (ap (at 81) rows_live)

  pub unnamed_esn_of_three_taken : Reads 82
  unnamed_esn_of_three_taken = as_charted 82 refl (ap (at 82) rows_live)

  pub twin_of_any_size_taken : Reads 83
  twin_of_any_size_taken = as_charted 83 refl (ap (at 83) rows_live)

  pub not_writing_nothing : ((o : Order) (out : Octets) → (w o out).output ≡ out) → ⊥
  unfolding OnlyOne
  not_writing_nothing h =
      let q = ap (λ x. x.output) ((only_one r w d).1 order (replicate 9 0) ∙ composed_so) in
      let z : ◌≡◌ {A = ℕ} 0xEA 0 = ap (λ t. get_or t 0 0) (sym q ∙ h order (replicate 9 0)) in
      omega arith
