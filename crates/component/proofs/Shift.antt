-- The layout of a component behind other octets is that of the component alone, with every place moved on by as many.
use Prim.Native.Nat.{ℕ, zero, suc, ◌+◌, ◌-◌, ◌<◌, ◌≤◌}
use mathlib.Core.Path.{◌≡◌, refl, sym, ◌∙◌}
use mathlib.Core.Bool.{Bool, true, false, ◌||◌, not}
use mathlib.Core.List.{◌++◌, map}
use lib.ListN.{length, get_or, drop, length-append}
use lib.Seq.{drop-drop, drop-append_seam, get_or-drop}
use lib.Dec.{ltb, leb, eqb}
use borrow.Author.Tests.{lt-ltb, le-ltb, le-leb, lt-leb, eq-eqb, ne_eqb, ltb-true, ltb-false, leb-true, leb-false, eqb-true, eqb-false}
use native.Mathlib.Omega.{arith}
use native.Mathlib.Nat.{add-zero}
use Rattle.std.specs.Prelude.{Option, Some, None}
use Rattle.element.specs.declared.Length as L
use Rattle.element.specs.declared.Identifier as I
use Rattle.element.specs.Octets.{Octets, if, between}
use Rattle.element.specs.Answer.{Answer, accepted, refused, ◌>>=◌, ◌>>◌, check}
use Rattle.element.specs.Decoded.{length_at, identifier_at}
use Rattle.component.specs.Table.{next}
use Rattle.component.specs.Layout.{Span, span, size_of, span_of, contents, wanted, set_at, coded_at, code_at, behind_id, body_at, Head, head_from, parameter, parameter_at, parameters, Layout, layout_behind, layout_from, code_octets}
use Rattle.component.specs.Types.{Coding, uncoded, coded, coding_of, family_size, typed, id_fits}
use Rattle.component.proofs.Typing.{of_each}
use Rattle.component.specs.Onward.{span_on, entry_on, head_on, layout_on, answer_on, keeps}

-- ---- tests of two places that are moved alike
alike : {t u : Bool} → (t ≡ true → u ≡ true) → (t ≡ false → u ≡ false) → u ≡ t
alike {t = true} y n = y refl
alike {t = false} y n = n refl

leb_on : (n a b : ℕ) → leb (n + a) (n + b) ≡ leb a b
leb_on n a b = alike (λ e. le-leb (n + a) (n + b) (omega (arith, leb-true a b e))) (λ e. lt-leb (n + a) (n + b) (omega (arith, leb-false a b e)))

ltb_on : (n a b : ℕ) → ltb (n + a) (n + b) ≡ ltb a b
ltb_on n a b = alike (λ e. lt-ltb (n + a) (n + b) (omega (arith, ltb-true a b e))) (λ e. le-ltb (n + a) (n + b) (omega (arith, ltb-false a b e)))

eqb_on : (n a b : ℕ) → eqb (n + a) (n + b) ≡ eqb a b
eqb_on n a b = alike (λ e. eq-eqb (n + a) (n + b) (omega (arith, eqb-true a b e))) (λ e. ne_eqb (n + a) (n + b) (λ h. eqb-false a b e (omega arith)))

less_on : (n a b : ℕ) → (n + a) - (n + b) ≡ a - b
less_on n a b = omega arith

-- ---- an answer, and the same `n` octets further on
pub data Detail (n : ℕ) : (number alone there : ℕ) → Type 0 where
  on : {k d e : ℕ} → keeps k d ≡ false → e ≡ n + d → Detail n k d e
  kept : {k d : ℕ} → keeps k d ≡ true → Detail n k d d

pub data On {A : Type 0} (n : ℕ) (R : A → A → Type 0) : Answer A → Answer A → Type 0 where
  both : {x y : A} → R x y → On n R (accepted x) (accepted y)
  stop : {k d e : ℕ} → Detail n k d e → On n R (refused k d) (refused k e)

abbrev pub Any : {A : Type 0} → A → A → Type 0
Any _ _ = Unit

abbrev pub By : {A : Type 0} → (A → A) → A → A → Type 0
By f x y = y ≡ f x

pub equation : {A : Type 0} {n : ℕ} (f : A → A) {a b : Answer A} → On n (By f) a b → b ≡ answer_on n f a
equation f (both e) = rw e refl
equation f (stop (on h q)) = rw (h, q) refl
equation f (stop (kept h)) = rw h refl

pub then : {A B : Type 0} {n : ℕ} {R : A → A → Type 0} {S : B → B → Type 0} {a b : Answer A} {h k : A → Answer B} →
    On n R a b → ((x y : A) → R x y → On n S (h x) (k y)) → On n S (a >>= h) (b >>= k)
then (both {x} {y} e) t = t x y e
then (stop q) t = stop q

module _ {A : Type 0} {n : ℕ} {R : A → A → Type 0} where
  ask : (t : Bool) {u : Bool} {k d e : ℕ} {a b : Answer A} → u ≡ t → Detail n k d e → On n R a b → On n R (check t k d >> a) (check u k e >> b)
  ask true q h o = rw q o
  ask false q h o = rw q (stop h)

  asked : (t : Bool) {k d e : ℕ} {a b : Answer A} → Detail n k d e → (t ≡ true → On n R a b) → On n R (check t k d >> a) (check t k e >> b)
  asked true h o = o refl
  asked false h o = stop h

  choose : (t : Bool) {u : Bool} {a b c d : Answer A} → u ≡ t → On n R a b → On n R c d → On n R (if t a c) (if u b d)
  choose true q x y = rw q x
  choose false q x y = rw q y

there : {n k d : ℕ} → keeps k d ≡ false → Detail n k d (n + d)
there h = on h refl

module _ (pre c : Octets) where
  abbrev n : ℕ
  n = length pre

  abbrev s : Octets
  s = pre ++ c

  dropped : (a : ℕ) → drop (n + a) s ≡ drop a c
  dropped a = sym (drop-drop a n s) ∙ rw (drop-append_seam pre c) refl

  pub seen : (a : ℕ) → get_or s (n + a) 0 ≡ get_or c a 0
  seen a = sym (get_or-drop n s a 0) ∙ rw (drop-append_seam pre c) refl

  pub part : (a b : ℕ) → between (n + a) (n + b) s ≡ between a b c
  part a b = rw (less_on n b a, dropped a) refl

  -- what was found behind `from`
  record SpanOn (from : ℕ) (x y : Span) : Type 0 where
    is : y ≡ span_on n x
    behind : from ≤ x.start
    ordered : x.start ≤ x.end

  spans : (at from end : ℕ) (l : Option L.Length) → On n (SpanOn from) (span_of at from end l) (span_of (n + at) (n + from) (n + end) l)
  unfolding span_of
  spans at from end (Some read) =
      let value = read.value in
      let octets = read.size in
      let p : n + from + octets ≡ n + (from + octets) = omega arith in
      let q : n + (from + octets) + value ≡ n + (from + octets + value) = omega arith in
      rw (p, q) (ask _ (leb_on n (from + octets + value) end) (there refl) (both (record { is = refl; behind = omega arith; ordered = omega arith })))
  spans at from end None = stop (there refl)

  contents_on : (at from end : ℕ) → On n (SpanOn from) (contents c at from end) (contents s (n + at) (n + from) (n + end))
  unfolding contents
  contents_on at from end = rw (part from end) (spans at from end (length_at (between from end c)))

  wanted_on : (octet number at end : ℕ) → keeps number at ≡ false → On n (SpanOn (at + 1)) (wanted c octet number at end) (wanted s octet number (n + at) (n + end))
  unfolding wanted
  wanted_on octet number at end h =
      let p : n + at + 1 ≡ n + (at + 1) = omega arith in
      rw (seen at, p)
      (ask _ (ltb_on n at end) (there refl)
      (ask (eqb (get_or c at 0) octet) refl (there {k = number} {d = at} h)
      (contents_on at (at + 1) end)))

  set_on : (at end : ℕ) → On n (By (span_on n)) (set_at c at end) (set_at s (n + at) (n + end))
  unfolding set_at
  set_on at end =
      then (wanted_on 0xF2 8 at end refl) λ f g e.
      rw e.is (ask _ (eqb_on n f.end end) (there refl) (both refl))

  -- ---- the head; a refusal of the code points to its element
  abbrev Points : Coding → Type 0
  Points uncoded = Unit
  Points (coded octet number family size) = (d : ℕ) → keeps number d ≡ false

  points : (kind : ℕ) → Points (coding_of kind)
  points = of_each (λ f. Points f.coding) (λ d. refl) tt (λ d. refl) (λ d. refl)

  code_on : (coding : Coding) → Points coding → (at end : ℕ) → On n (SpanOn at) (code_at c coding at end) (code_at s coding (n + at) (n + end))
  unfolding code_at coded_at
  code_on uncoded p at end = both {x = span at at} (record { is = refl; behind = omega arith; ordered = omega arith })
  code_on (coded octet number family size) p at end =
      then (wanted_on octet number at end (p at)) λ d d' e.
      let q : n + d.start + family_size family ≡ n + (d.start + family_size family) = omega arith in
      rw (e.is, less_on n d.end d.start, seen d.start, q)
      (asked (eqb (size_of d) (family_size family + size)) (there (p at)) λ k.
      (ask (not family || eqb (get_or c d.start 0) 9) refl (there (p at))
      (both (record { is = refl; behind = omega (arith, e.behind); ordered = omega (arith, eqb-true (size_of d) (family_size family + size) k, e.ordered) }))))

  -- the code stands behind an octet
  record HeadOn (h h' : Head) : Type 0 where
    is : h' ≡ head_on n h
    points : 0 < h.code

  body_on : (kind : ℕ) (x : Span) → On n HeadOn (body_at c kind x) (body_at s kind (span_on n x))
  unfolding body_at behind_id
  body_on kind x =
      then (wanted_on 0xCF 6 x.start x.end refl) λ i i' a.
      rw (a.is, less_on n i.end i.start)
      (ask (id_fits kind (size_of i)) refl (there refl)
      (then (code_on (coding_of kind) (points kind) i.end x.end) λ d d' b.
      rw b.is (then (set_on d.end x.end) λ f f' e. both (record { is = rw e refl; points = omega (arith, a.behind, a.ordered, b.behind) }))))

  parameter_on : (at end : ℕ) (i : Option I.Identifier) → On n (By (entry_on n)) (parameter c at end i) (parameter s (n + at) (n + end) i)
  unfolding parameter
  parameter_on at end (Some read) =
      let number = read.number in
      let form = read.form in
      let octets = read.size in
      let p : n + at + octets ≡ n + (at + octets) = omega arith in
      rw p (then (contents_on at (at + octets) end) λ x y e. both (rw (e.is, less_on n x.end x.start) refl))
  parameter_on at end None = stop (there refl)

  parameter_at_on : (at end : ℕ) → On n (By (entry_on n)) (parameter_at c at end) (parameter_at s (n + at) (n + end))
  unfolding parameter_at
  parameter_at_on at end = rw (part at end) (parameter_on at end (identifier_at (between at end c)))

  parameters_on : (room at end : ℕ) → On n (By (map (entry_on n))) (parameters room c at end) (parameters room s (n + at) (n + end))
  unfolding parameters
  parameters_on zero at end = ask _ (leb_on n end at) (there refl) (both refl)
  parameters_on (suc room) at end =
      choose _ (leb_on n end at) (both refl)
      (then (parameter_at_on at end) λ x y e.
      let p : n + x.start + x.size ≡ n + (x.start + x.size) = omega arith in
      rw (e, p) (then (parameters_on room (next x) end) λ xs ys e'. both (rw e' refl)))

  head_on_lem : On n HeadOn (head_from c 0) (head_from s n)
  unfolding head_from
  head_on_lem =
      let z : get_or s n 0 ≡ get_or c 0 0 = rw (add-zero n) at (seen 0) in
      let l : length s ≡ n + length c = length-append pre c in
      let w : On n (SpanOn 1) (contents c 0 1 (length c)) (contents s n (n + 1) (n + length c)) = rw (add-zero n) at (contents_on 0 1 (length c)) in
      rw (z, l)
      (ask (typed (get_or c 0 0)) refl (kept refl)
      (then w λ x y e.
      rw e.is
      (ask _ (eqb_on n x.end (length c)) (there refl)
      (body_on (get_or c 0 0) x))))

  pub record LayoutOn (l l' : Layout) : Type 0 where
    pub is : l' ≡ layout_on n l
    pub points : 0 < l.head.code

  pub layout_on_lem : On n LayoutOn (layout_from c 0) (layout_from s n)
  unfolding layout_from layout_behind
  layout_on_lem =
      let l : length s ≡ n + length c = length-append pre c in
      then head_on_lem λ h h' e.
      rw (e.is, l) (then (parameters_on 64 h.set (length c)) λ xs ys e'. both (record { is = rw e' refl; points = e.points }))

  pub code_octets_on : (h : Head) → code_octets s (head_on n h) ≡ code_octets c h
  unfolding code_octets
  code_octets_on h = rw (dropped h.code) refl
