-- Whatever the grammar lays out is read, and the layout shows it.
use Prim.Native.Nat.{ℕ, zero, suc, ◌+◌, ◌-◌, ◌<◌, ◌≤◌}
use mathlib.Core.Path.{◌≡◌, refl, sym, ap, ap₂, ◌∙◌}
use mathlib.Core.Bool.{true, false}
use mathlib.Core.List.{List, [], ◌∷◌, ◌++◌, append_assoc, append-nil}
use lib.ListN.{length, get_or, take, drop, length-append}
use lib.Seq.{drop-drop, drop-append_seam, take-append-add, take-append_seam, get_or-drop}
use borrow.Author.Tests.{lt-ltb, le-leb, lt-leb, eq-eqb}
use native.Mathlib.Nat.{add-zero, zero-add}
use native.Mathlib.Omega.{arith}
use Rattle.element.specs.Octets.{Octets, between}
use Rattle.element.specs.Answer.{Answer, accepted, ◌>>=◌}
use Rattle.element.specs.Identifier.{IdentifierField}
use Rattle.element.proofs.LengthLaws as L
use Rattle.element.proofs.IdentifierLaws as I
use Rattle.component.specs.Layout.{Span, span, size_of, contents, span_of, wanted, set_at, coded_at, code_at, behind_id, body_at, Head, head_of, head_at, head_from, parameter, parameter_at, parameters, Layout, layout_of, layout_at, layout_behind, code_octets, operation_place}
use Rattle.component.specs.Types.{Coding, coded, code_size}
use Rattle.component.specs.Table.{Entry, next}
use Rattle.component.specs.Grammar.{Parameter, Element, laid, Parameters, Component, Coded, absent, present, Laid}
use Rattle.component.specs.Grammar as G
use Rattle.component.proofs.Shown.{Outlines, standing_show}
use Rattle.component.proofs.Typing.{known, fits}
use Rattle.component.specs.Standing.{entry_at, entries_at, standing, operation_at}

-- an answer that accepts what `P` holds of, step by step
data Accepts {A : Type 0} (P : A → Type 0) : Answer A → Type 0 where
  accepts : {x : A} → P x → Accepts P (accepted x)

then : {A B : Type 0} {P : A → Type 0} {Q : B → Type 0} {a : Answer A} {f : A → Answer B} →
    Accepts P a → ((x : A) → P x → Accepts Q (f x)) → Accepts Q (a >>= f)
then (accepts {x} h) k = k x h

taken : {A : Type 0} {P : A → Type 0} {a : Answer A} → Accepts P a → (x : A) × (a ≡ accepted x) × P x
taken (accepts {x} h) = (x, refl, h)

-- an element has an octet more than its head
pub longer : {head body e : Octets} → Element head body e → length head + length body < length e
longer (laid field r) = simp length-append (omega (arith, L.sizes r))

pub first_octet : {octet : ℕ} {head body e : Octets} → Element (octet ∷ head) body e → (behind : Octets) → get_or (e ++ behind) 0 0 ≡ octet
first_octet (laid field r) behind = refl

-- the entry of a parameter is the one that stands there
stands_at : (p : Parameter) {at start size : ℕ} {head e : Octets} → Element head p.content e → at + length e ≡ start + size → size ≡ length p.content →
    record { number = p.number; form = p.form; place = at; start = start; size = size } ≡ entry_at at e p
unfolding entry_at
stands_at p {at} {start} {e = e} w k l =
    let h : start ≡ at + (length e - length p.content) = omega (arith, longer w) in
    ap₂ (λ a b. record { number = p.number; form = p.form; place = at; start = a; size = b }) h l

-- `a` stands at `at`, and `behind` behind it
module _ (s : Octets) where
  record Stands (at : ℕ) (a behind : Octets) : Type 0 where
    octets : drop at s ≡ a ++ behind

  module _ {at : ℕ} (a b : Octets) {behind : Octets} (h : Stands at (a ++ b) behind) where
    front : Stands at a (b ++ behind)
    front = record { octets = h.octets ∙ append_assoc a b behind }

    back : Stands (at + length a) b behind
    back = record { octets = sym (drop-drop (length a) at s) ∙ rw front.octets (drop-append_seam a (b ++ behind)) }

  seen : {at : ℕ} {a behind : Octets} → Stands at a behind → (end : ℕ) → at + length a ≤ end → (rest : Octets) × (between at end s ≡ a ++ rest)
  seen {at} {a} {behind} e end h =
      let n = end - (at + length a) in
      let d : end - at ≡ length a + n = omega arith in
      (take n behind, rw (e.octets, d) (take-append-add a behind n))

  shown : {at : ℕ} {a behind : Octets} → Stands at a behind → (i : ℕ) → get_or s (at + i) 0 ≡ get_or (a ++ behind) i 0
  shown {at} h i = sym (get_or-drop at s i 0) ∙ rw h.octets

  -- the contents of an element that ends at `to`
  record Inside (body behind : Octets) (to : ℕ) (x : Span) : Type 0 where
    starts : Stands x.start body behind
    sized : x.end ≡ x.start + length body
    ends : to ≡ x.end

  body_of : {body behind : Octets} {to : ℕ} {x : Span} → Inside body behind to x → between x.start x.end s ≡ body
  body_of {body = body} {x = x} i =
      let d : x.end - x.start ≡ length body = omega arith in
      rw (d, i.starts.octets) (take-append_seam body _)

  identified : {at : ℕ} {head body e behind : Octets} → Element head body e → Stands at e behind → (t : Octets) × Stands at head t
  identified {head = head} {body} {behind = behind} (laid field r) h =
      (field ++ (body ++ behind), front head field (front (head ++ field) body h))

  contents_of : {at : ℕ} {head body e behind : Octets} → Element head body e → Stands at e behind → (end : ℕ) → at + length e ≤ end →
      Accepts (Inside body behind (at + length e)) (contents s at (at + length head) end)
  unfolding contents span_of
  contents_of {at} {head} {body} (laid field r) h end k =
      let l = length-append head field in
      let m = length-append (head ++ field) body in
      let from = at + length head in
      let p : at + length (head ++ field) ≡ from + length field = omega arith in
      let (rest, b) = seen (back head field (front (head ++ field) body h)) end (omega arith) in
      rw (b, L.complete r rest, le-leb (from + length field + length body) end (omega arith))
      (accepts (record { starts = rw p at (back (head ++ field) body h); sized = refl; ends = omega arith }))

  module _ {at octet : ℕ} {body e behind : Octets} (w : Element (octet ∷ []) body e) (h : Stands at e behind) where
    first : get_or s at 0 ≡ octet
    first = rw add-zero at (shown h 0) ∙ first_octet w behind

    wanted_of : (number end : ℕ) → at + length e ≤ end → Accepts (Inside body behind (at + length e)) (wanted s octet number at end)
    unfolding wanted
    wanted_of number end k = rw (lt-ltb at end (omega (arith, longer w)), eq-eqb _ _ first) (contents_of w h end k)

  set_at_of : {at : ℕ} {body e behind : Octets} → Element (0xF2 ∷ []) body e → Stands at e behind → (end : ℕ) → at + length e ≡ end →
      Accepts (Inside body behind end) (set_at s at end)
  unfolding set_at
  set_at_of w h end k = then (rw k at (wanted_of w h 8 end (omega arith))) λ x i. rw (eq-eqb x.end end (omega arith)) (accepts i)

  -- parameters
  record Next (p : Parameter) (at : ℕ) (e : Octets) (x : Entry) : Type 0 where
    ends : at + length e ≡ next x
    stands : x ≡ entry_at at e p

  parameter_of_lem : (p : Parameter) {at : ℕ} {head e behind : Octets} → IdentifierField p.number p.form head → Element head p.content e →
      Stands at e behind → (end : ℕ) → at + length e ≤ end → end ≤ length s → Accepts (Next p at e) (parameter_at s at end)
  unfolding parameter_at parameter
  parameter_of_lem p {at} n w h end k l =
      let (rest, b) = seen (identified w h).1 end (omega (arith, longer w)) in
      rw (b, I.complete n rest)
      (then (contents_of w h end k) λ x i. accepts (record {
        ends = omega arith;
        stands = stands_at p w (omega arith) (omega arith);
      }))

  parameters_of : {ps : List Parameter} {set : Octets} (r : Parameters ps set) → {at : ℕ} {behind : Octets} (room end : ℕ) → Stands at set behind →
      at + length set ≡ end → end ≤ length s → length ps ≤ room → Accepts (λ es. es ≡ entries_at at r) (parameters room s at end)
  unfolding parameters entries_at
  parameters_of G.none {at} zero end e h k l = rw (le-leb end at (omega arith)) (accepts refl)
  parameters_of G.none {at} (suc room) end e h k l = rw (le-leb end at (omega arith)) (accepts refl)
  parameters_of (G.more p n w r) zero end e h k l = absurd (omega arith)
  parameters_of (G.more p {s = i} {rest = rest} n w r) {at} (suc room) end e h k l =
      let m = length-append i rest in
      rw (lt-leb end at (omega (arith, longer w)))
      (then (parameter_of_lem p n w (front i rest e) end (omega arith) k) λ x a.
      then (parameters_of r room end (rw a.ends at (back i rest e)) (omega arith) k (omega arith)) λ es b.
      accepts (ap₂ (λ y ys. y ∷ ys) a.stands (b ∙ ap (λ k. entries_at k r) (sym a.ends))))

  -- the code, and where the set stands behind it
  record Coding-of (code behind : Octets) (to : ℕ) (x : Span) : Type 0 where
    starts : Stands x.start code behind
    ends : to ≡ x.end
    sized : x.end ≡ x.start + length code

  code_of : {coding : Coding} {at : ℕ} {code e behind : Octets} → Coded coding code e → Stands at e behind → (end : ℕ) → at + length e ≤ end →
      Accepts (Coding-of code behind (at + length e)) (code_at s coding at end)
  unfolding code_at coded_at
  code_of {at = at} absent h end k = accepts {x = span at at} (record { starts = h; ends = omega arith; sized = omega arith })
  code_of {coding = coded octet number true size} {at} {code} (present l w) h end k =
      then (wanted_of w h number end k) λ d i.
      let e = i.starts in
      rw (eq-eqb (size_of d) (1 + size) (omega arith), eq-eqb (get_or s d.start 0) 9 (rw add-zero at (shown e 0)))
      (accepts (record { starts = back (9 ∷ []) code e; ends = i.ends; sized = omega arith }))
  code_of {coding = coded octet number false size} (present l w) h end k =
      then (wanted_of w h number end k) λ d i.
      rw (eq-eqb (size_of d) (0 + size) (omega arith), add-zero d.start)
      (accepts (record { starts = i.starts; ends = i.ends; sized = i.sized }))

  -- the component
  record Heads {c : Component} (x : Laid c s) (h : Head) : Type 0 where
    kind : h.kind ≡ c.kind
    id : between h.id.start h.id.end s ≡ c.id
    code : Stands h.code c.code x.set
    coded : h.code + (length c.code + length x.set) ≡ length s
    set : Stands h.set x.contents []
    ends : h.set + length x.contents ≡ length s

pub code_sized : {coding : Coding} {code e : Octets} → Coded coding code e → length code ≡ code_size coding
code_sized absent = refl
code_sized (present l w) = l

head_of_lem : {c : Component} {s : Octets} (x : Laid c s) → length s ≤ 4096 → Accepts (Heads s x) (head_of s)
unfolding head_at head_from body_at behind_id
head_of_lem {c} {s} x h =
    let i = x.id in
    let o = x.code in
    let f = x.set in
    let e : Stands s 0 s [] = record { octets = sym (append-nil s) } in
    let w = x.whole in
    let n = length-append i o in
    let q = length-append (i ++ o) f in
    rw (first s w e, lt-ltb 0 (length s) (omega (arith, longer w)), le-leb (length s) 4096, known x.allowed.0)
    (then (rw (zero-add (length s)) at (contents_of s w e (length s) (omega arith))) λ y j.
    let g = front s (i ++ o) f j.starts in
    rw (eq-eqb y.end (length s) (omega arith))
    (then (wanted_of s x.identified (front s i o g) 6 y.end (omega arith)) λ z l.
    let size : z.end - z.start ≡ length c.id = omega arith in
    rw (size, fits x.allowed)
    (then (code_of s x.encoded (rw l.ends at (back s i o g)) y.end (omega arith)) λ d m.
    let k : y.start + length (i ++ o) ≡ d.end = omega arith in
    then (set_at_of s x.collected (rw k at (back s (i ++ o) f j.starts)) y.end (omega arith)) λ u p.
    accepts (record {
      kind = refl;
      id = body_of s l;
      code = rw append-nil at m.starts;
      coded = omega arith;
      set = p.starts;
      ends = omega arith;
    }))))

-- with where its parts stand
pub record Reads {s : Octets} {c : Component} (x : Laid c s) (l : Layout) : Type 0 where
  pub outlines : Outlines s l c
  pub entries : l.entries ≡ standing x
  pub operation : operation_place l.head ≡ operation_at x

pub complete : {c : Component} {s : Octets} (x : Laid c s) → length s ≤ 4096 → length c.parameters ≤ 64 →
    (l : Layout) × (layout_of s ≡ accepted l) × Reads x l
unfolding layout_at layout_behind code_octets standing operation_place operation_at
complete {c} {s} x h k = taken
    (then (head_of_lem x h) λ y a.
    then (parameters_of s x.parameters 64 (length s) a.set a.ends (omega arith) k) λ es b.
    let z : y.set ≡ length s - length x.contents = omega arith in
    let q = b ∙ ap (λ k. entries_at k x.parameters) z in
    let p : y.code ≡ length s - (length x.set + length c.code) = omega arith in
    accepts (record {
      outlines = record {
        kind = a.kind;
        id = a.id;
        code = rw (a.kind, ← code_sized x.encoded, a.code.octets) (take-append_seam c.code x.set);
        shows = rw q (standing_show x);
      };
      entries = q;
      operation = rw (a.kind, p);
    }))
