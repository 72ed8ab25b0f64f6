-- What must occur, the group and the choice, as the code holds them, against 13 and 14 of a row.
-- Assumes nothing.
use Prim.Native.Nat.{ℕ, ◌+◌, ◌/◌, ◌<◌, ◌≤◌}
use mathlib.Core.Path.{◌≡◌, refl, sym, ◌∙◌}
use mathlib.Core.Bool.{Bool, true, false, ◌&&◌, ◌||◌, not, true≢false, or-true, or-false, or_self}
use mathlib.Core.List.{List, [], ◌∷◌}
use lib.ListN.{length, get_or, drop, drop_of_length-le}
use lib.Seq.{drop-cons}
use lib.Dec.{eqb}
use Rattle.std.specs.List.{list_any, slice_get}
use Rattle.std.specs.Option.{option_map}
use borrow.Author.Tests.{eqb-true, eq-eqb, ne_eqb, not-true}
use native.Mathlib.Numerals.{add-one}
use Rattle.element.specs.Answer.{Answer, accepted, refused, ◌>>◌, check}
use Rattle.operation.specs.Row.{Row, Line, must, one_of, any_of, may, members, some_of, among, asks, asks_nothing, group_last, Item, on_line, named, number_of}
use Rattle.operation.specs.Judge.{occurs, last_mark, met, present, doubled, single}
use Rattle.operation.specs.inner.Coded.{holds, must_of, group_of, between, choice, Asks}
use Rattle.operation.specs.inner.Firsts.{lacking_all, lacking, missing_in}
use Rattle.operation.proofs.Lines.{each, self, some_same}

-- ---- a group

some_is_any : (p : ℕ → Bool) (ks : List ℕ) → some_of p ks ≡ list_any p ks
unfolding some_of
some_is_any p [] = refl
some_is_any p (k ∷ ks) = rw (some_is_any p ks) refl

pub one_noted : (group seen : List ℕ) → list_any (holds seen) group ≡ true → accepted tt ≡ lacking_all group seen
unfolding lacking_all
one_noted [] seen e = refl
one_noted (k ∷ ks) seen e = rw (some_is_any (holds seen) (k ∷ ks) ∙ e) refl

-- it gives the first; no members are no group
pub none_noted : (group seen : List ℕ) → list_any (holds seen) group ≡ false →
    lacking_all group seen ≡ missing_in (option_map (λ k. k / 2) (slice_get group 0))
unfolding lacking_all number_of
none_noted [] seen e = refl
none_noted (k ∷ ks) seen e = rw (some_is_any (holds seen) (k ∷ ks) ∙ e) refl

-- ---- the walk over what must occur

module _ (list group : List ℕ) (one other : ℕ) (seen : List ℕ) where
  -- what is left of it from `at` on
  abbrev pub lacking_from : (at : ℕ) → Answer Unit
  lacking_from at = lacking (drop at list) group one other seen

  module _ (at : ℕ) where
    pub none_left : length list ≤ at → lacking_all group seen ≡ lacking_from at
    unfolding lacking
    none_left h = rw (drop_of_length-le list h)

    module _ (h : at < length list) {k : ℕ} (f : k ≡ get_or list at 0) {a : Bool} (g : a ≡ holds seen k) where
      pub noted : a ≡ true → lacking_from (at + 1) ≡ lacking_from at
      unfolding lacking
      noted e = rw (add-one, drop-cons list at 0 h, ← f, ← g, e)

      pub not_one : a ≡ false → (k ≡ one → ⊥) → refused 13 (get_or list at 0 / 2) ≡ lacking_from at
      unfolding lacking number_of
      not_one e n = rw (drop-cons list at 0 h, ← f, ← g, e, ne_eqb k one n)

      module _ (e : a ≡ false) (o : k ≡ one) {b : Bool} (i : b ≡ holds seen other) where
        pub other_noted : b ≡ true → lacking_from (at + 1) ≡ lacking_from at
        unfolding lacking
        other_noted p = rw (add-one, drop-cons list at 0 h, ← f, ← g, e, eq-eqb k one o, ← i, p)

        pub neither : b ≡ false → refused 13 (get_or list at 0 / 2) ≡ lacking_from at
        unfolding lacking number_of
        neither p = rw (drop-cons list at 0 h, ← f, ← g, e, eq-eqb k one o, ← i, p)

-- ---- against the row

alone_asked : (t : Bool) (d : ℕ) → check t 13 d ≡ (check t 13 d >> accepted tt)
alone_asked true d = refl
alone_asked false d = refl

module _ (one other : ℕ) (seen : List ℕ) (xs : List Item) where
  -- what lines name is noted as it occurs
  abbrev Known : Row → Type 0
  Known ls = (k : ℕ) → named ls k ≡ true → holds seen k ≡ occurs k xs

  later : (l : Line) (ls : Row) → Known (l ∷ ls) → Known ls
  unfolding named
  later l ls n k e = n k (rw e (or-true (on_line l k)))

  own : (l : Line) (ls : Row) → Known (l ∷ ls) → (k : ℕ) → on_line l k ≡ true → holds seen k ≡ occurs k xs
  unfolding named
  own l ls n k e = n k (rw e)

  alone : (j : ℕ) → (eqb one other || not (eqb j one)) ≡ true → (holds seen j || (eqb j one && holds seen other)) ≡ holds seen j
  alone j h = by (eqb j one) refl h
    where
      by : (t : Bool) → eqb j one ≡ t → (eqb one other || not t) ≡ true → (holds seen j || (t && holds seen other)) ≡ holds seen j
      by true e h = let f = eqb-true one other (sym (or-false (eqb one other)) ∙ h) in rw (eqb-true j one e, f) (or_self (holds seen other))
      by false e h = or-false (holds seen j)

  nothing_asked : (ls : Row) → asks_nothing ls ≡ true → (must_of ls ≡ []) × (accepted tt ≡ present ls xs)
  unfolding asks_nothing must_of present met
  nothing_asked [] e = (refl, refl)
  nothing_asked (must j ∷ ls) e = absurd (true≢false (sym e))
  nothing_asked (one_of i j ∷ ls) e = absurd (true≢false (sym e))
  nothing_asked (any_of i js ∷ ls) e = absurd (true≢false (sym e))
  nothing_asked (may j ∷ ls) e = nothing_asked ls e

  asked : (ls : Row) → Known ls → group_last ls ≡ true → between one other ls ≡ true → lacking (must_of ls) (group_of ls) one other seen ≡ present ls xs
  unfolding lacking lacking_all must_of group_of present met asks between on_line members some_of among group_last
  asked [] n g h = refl
  asked (must j ∷ ls) n g h =
      let (o, p) = each (eqb one other || not (eqb j one)) _ h in
      rw (alone j o, own (must j) ls n j (rw (self j)), asked ls (later (must j) ls n) g p)
  asked (any_of i js ∷ ls) n g h =
      let (m, p) = nothing_asked ls g in
      rw (m, some_same (holds seen) (λ k. occurs k xs) (i ∷ js) (own (any_of i js) ls n), ← p) (alone_asked (some_of (λ k. occurs k xs) (i ∷ js)) (number_of i))
  asked (one_of i j ∷ ls) n g h =
      let (o, p) = each (not (eqb one other) && (eqb i one && eqb j other)) _ h in
      let (q, r) = each (eqb i one) _ (each (not (eqb one other)) _ o).1 in
      let a = asked ls (later (one_of i j) ls n) g p in
      rw (a, q, ← eqb-true j other r, own (one_of i j) ls n i (rw (self i)), own (one_of i j) ls n j (simp (self j, or-true)))
  asked (may j ∷ ls) n g h = asked ls (later (may j) ls n) g h

  not_two : (ls : Row) → Known ls → between one other ls ≡ true → (eqb one other ≡ false → (holds seen one && holds seen other) ≡ false) → accepted tt ≡ single ls xs
  unfolding single doubled between on_line members some_of among
  not_two [] n h z = refl
  not_two (must j ∷ ls) n h z = not_two ls (later (must j) ls n) (each (eqb one other || not (eqb j one)) _ h).1 z
  not_two (one_of i j ∷ ls) n h z =
      let (o, p) = each (not (eqb one other) && (eqb i one && eqb j other)) _ h in
      let (d, m) = each (not (eqb one other)) _ o in
      let (q, r) = each (eqb i one) _ m in
      let e = eqb-true i one q in
      let f = eqb-true j other r in
      let a : holds seen one ≡ occurs i xs = rw (← e) (own (one_of i j) ls n i (rw (self i))) in
      let b : holds seen other ≡ occurs j xs = rw (← f) (own (one_of i j) ls n j (simp (self j, or-true))) in
      rw (← a, ← b, z (not-true (eqb one other) d)) (not_two ls (later (one_of i j) ls n) p z)
  not_two (any_of i js ∷ ls) n h z = not_two ls (later (any_of i js) ls n) h z
  not_two (may j ∷ ls) n h z = not_two ls (later (may j) ls n) h z

  two : (ls : Row) → between one other ls ≡ true → choice ls ≡ true → occurs one xs ≡ true → occurs other xs ≡ true →
      refused 14 (last_mark (one_of one other) 0 xs) ≡ single ls xs
  unfolding single doubled between choice
  two [] h c a b = absurd (true≢false (sym c))
  two (must j ∷ ls) h c a b = two ls (each (eqb one other || not (eqb j one)) _ h).1 c a b
  two (one_of i j ∷ ls) h c a b =
      let (o, p) = each (not (eqb one other) && (eqb i one && eqb j other)) _ h in
      let (q, r) = each (eqb i one) _ (each (not (eqb one other)) _ o).1 in
      rw (eqb-true i one q, eqb-true j other r, a, b)
  two (any_of i js ∷ ls) h c a b = two ls h c a b
  two (may j ∷ ls) h c a b = two ls h c a b

module _ {row : Row} {list group : List ℕ} {one other : ℕ} (asks : Asks row list group one other) (seen : List ℕ) (xs : List Item)
    (noted : (k : ℕ) → holds seen k ≡ (named row k && occurs k xs)) where
  known : (k : ℕ) → named row k ≡ true → holds seen k ≡ occurs k xs
  known k e = noted k ∙ rw e

  pub by_notes : lacking list group one other seen ≡ present row xs
  by_notes = rw (asks.listed, asks.grouped) (asked one other seen xs row known asks.last asks.chosen)

  pub by_one : (eqb one other ≡ false → (holds seen one && holds seen other) ≡ false) → accepted tt ≡ single row xs
  by_one = not_two one other seen xs row known asks.chosen

  pub by_both : eqb one other ≡ false → holds seen one ≡ true → holds seen other ≡ true → refused 14 (last_mark (one_of one other) 0 xs) ≡ single row xs
  by_both d a b =
      two one other seen xs row asks.chosen (sym (rw d) ∙ asks.two) (each (named row one) _ (sym (noted one) ∙ a)).1 (each (named row other) _ (sym (noted other) ∙ b)).1
