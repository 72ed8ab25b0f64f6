-- What has a fault is refused with its number and detail.
use Prim.Native.Nat.{ℕ, suc, ◌+◌, ◌-◌, ◌<◌, ◌≤◌}
use mathlib.Core.Path.{◌≡◌, refl, sym, ap, ◌∙◌}
use mathlib.Core.Bool.{Bool, true, false, ◌||◌, not}
use mathlib.Core.List.{[], ◌∷◌, ◌++◌, append_assoc, append-nil}
use lib.ListN.{length, take, drop, get_or, length-append, take-append-drop}
use lib.Seq.{drop-drop, drop-append_seam, get_or-drop}
use lib.Dec.{eqb}
use borrow.Author.Tests.{lt-ltb, le-ltb, le-leb, lt-leb, eq-eqb, ne_eqb}
use native.Mathlib.Nat.{add-zero, zero-add}
use native.Mathlib.Decide.{ℕ_discrete}
use native.Mathlib.Omega.{arith}
use Rattle.std.specs.Prelude.{Option, Some, None}
use Rattle.element.specs.declared.Length as L
use Rattle.element.specs.declared.Identifier as I
use Rattle.element.specs.Octets.{Octets, AreOctets, between}
use Rattle.element.specs.Answer.{Answer, accepted, refused, ◌>>=◌, ◌>>◌, check}
use Rattle.element.specs.Decoded.{length_at, identifier_at}
use Rattle.element.proofs.LengthLaws as Length
use Rattle.element.proofs.IdentifierLaws as Identifier
use Rattle.component.specs.Layout.{Span, span, size_of, contents, span_of, wanted, set_at, Head, coded_at, code_at, behind_id, body_at, head_at, head_from, parameter, parameter_at, parameters, Layout, layout_of, layout_at, layout_behind}
use Rattle.component.specs.Types.{Coding, coded, coding_of, Typed, with_family, family_size}
use Rattle.component.specs.Grammar.{Element, laid, Coded, absent, present}
use Rattle.component.specs.Faults.{Numbers, component, NoField, NoIdentifier, Unheld, no_field, overrun, Unfound, ended, other, left, InSet, NoSet, NoCode, NoBody, Whole, Faulty}
use Rattle.component.proofs.Parts.{octets_between, to_end}
use Rattle.component.proofs.Typing.{known, unknown, fits, misfits}
use Rattle.component.proofs.Deciding.{ask}

-- ---- no field and no identifier are read where none begins
wrong : {s : Octets} → AreOctets s → NoField s → length_at s ≡ None
wrong {s} o h = go (length_at s) refl
  where
    go : (l : Option L.Length) → length_at s ≡ l → l ≡ None
    go (Some read) e = absurd (h read.value (take read.size s) (drop read.size s) (Length.sound s o e).0 (sym (take-append-drop read.size s)))
    go None e = refl

ill_formed : {s : Octets} → AreOctets s → NoIdentifier s → identifier_at s ≡ None
ill_formed {s} o h = go (identifier_at s) refl
  where
    go : (i : Option I.Identifier) → identifier_at s ≡ i → i ≡ None
    go (Some read) e = absurd (h read.number read.form (take read.size s) (drop read.size s) (Identifier.sound s o e).0 (sym (take-append-drop read.size s)))
    go None e = refl

module _ (s : Octets) where
  -- `t` is what is left from `at` on
  pub record Rest (at : ℕ) (t : Octets) : Type 0 where
    pub octets : drop at s ≡ t
    pub ends : at + length t ≡ length s

  module _ {at : ℕ} {t : Octets} (r : Rest at t) where
    seen : between at (length s) s ≡ t
    seen = to_end s at ∙ r.octets

    pub at_octets : AreOctets s → AreOctets t
    at_octets o = rw (← seen) (octets_between s o at (length s))

  pub first : {at a : ℕ} {t : Octets} → Rest at (a ∷ t) → get_or s at 0 ≡ a
  first {at} r = rw add-zero at (sym (get_or-drop at s 0 0) ∙ ap (λ t. get_or t 0 0) r.octets)

  pub behind : {at : ℕ} (a : Octets) {b : Octets} → Rest at (a ++ b) → Rest (at + length a) b
  behind {at} a {b} r = record {
    octets = sym (drop-drop (length a) at s) ∙ ap (λ t. drop (length a) t) r.octets ∙ drop-append_seam a b;
    ends = omega (arith, r.ends, length-append a b);
  }

  pub moved : {at to : ℕ} {t : Octets} → at ≡ to → Rest at t → Rest to t
  moved e r = rw e at r

  pub again : {at : ℕ} {t u : Octets} → t ≡ u → Rest at t → Rest at u
  again e r = rw e at r

  -- what an element's contents are found as
  pub record Body (at : ℕ) (body e rest : Octets) (x : Span) : Type 0 where
    pub starts : Rest x.start (body ++ rest)
    pub ends : x.end ≡ at + length e
    pub size : size_of x ≡ length body
    pub order : x.start ≤ x.end

  pub contents_found : {at : ℕ} {head body e rest : Octets} → Element head body e → Rest at (e ++ rest) →
      (x : Span) × (contents s at (at + length head) (length s) ≡ accepted x) × Body at body e rest x
  unfolding contents span_of
  contents_found {at} {head} {body} {rest = rest} (laid field f) r =
      let p : ((head ++ field) ++ body) ++ rest ≡ head ++ (field ++ (body ++ rest)) = simp append_assoc in
      let b = behind head (again p r) in
      let c = behind field b in
      let from = at + length head in
      let l = length-append head field in
      let m = length-append (head ++ field) body in
      let n = length-append body rest in
      let z : from + length field + length body ≤ length s = omega (arith, c.ends) in (
        record { start = from + length field; end = from + length field + length body },
        rw (seen b, Length.complete f (body ++ rest), le-leb _ _ z),
        record { starts = c; ends = omega arith; size = omega arith; order = omega arith },
      )

  pub wanted_found : {octet at : ℕ} (number : ℕ) {body e rest : Octets} → Element (octet ∷ []) body e → Rest at (e ++ rest) →
      (x : Span) × (wanted s octet number at (length s) ≡ accepted x) × Body at body e rest x
  unfolding wanted
  wanted_found {octet} {at} number {body} {rest = rest} (laid field f) r =
      let (x, e, b) = contents_found {head = octet ∷ []} {body = body} {rest = rest} (laid field f) r in
      (x, rw (lt-ltb at (length s) (omega (arith, r.ends)), eq-eqb _ _ (first r)) e, b)

  -- where the contents stand of an element that fills what is left
  pub filled : {octet at : ℕ} (field : Octets) {body : Octets} {x : Span} → Rest at (octet ∷ (field ++ body)) → Body at body (octet ∷ (field ++ body)) [] x →
      Rest x.start body × (at + (1 + length field) ≡ x.start) × (x.end ≡ length s)
  filled field {body} r b =
      let z = length-append field body in
      (again (append-nil body) b.starts, omega (arith, b.size, b.ends, b.order), omega (arith, b.ends, r.ends))

  -- what a head goes on with
  walk : Head → Answer Layout
  walk h = parameters 64 s h.set (length s) >>= λ es. accepted (record { head = h; entries = es })

pub begun : {ns : Numbers} {head t : Octets} {at n d : ℕ} → Unheld ns head at t n d → (u : Octets) × (t ≡ head ++ u)
begun (no_field u h) = (u, refl)
begun (overrun {field = field} rest f h) = (field ++ rest, refl)

pub begins : {head body e : Octets} → Element head body e → (rest : Octets) → (u : Octets) × (e ++ rest ≡ head ++ u)
begins {head} {body} (laid field f) rest = (field ++ (body ++ rest), simp append_assoc)

module _ (s : Octets) (o : AreOctets s) where
  pub contents_refused : {head t : Octets} {at n d : ℕ} → Unheld component head at t n d → Rest s at t → contents s at (at + length head) (length s) ≡ refused n d
  unfolding contents span_of
  contents_refused {head} (no_field u h) r = let b = behind s head r in rw (seen s b, wrong (at_octets s b o) h)
  contents_refused {head} {at = at} (overrun {n} {field} rest f h) r =
      let b = behind s head r in
      let c = behind s field b in
      rw (seen s b, Length.complete f rest, lt-leb (at + length head + length field + n) (length s) (omega (arith, c.ends)))

  pub wanted_refused : {octet number at n d : ℕ} {t : Octets} → Unfound component octet number at t n d → Rest s at t → wanted s octet number at (length s) ≡ refused n d
  unfolding wanted
  wanted_refused {at = at} ended r = let e : at ≡ length s = omega (arith, r.ends) in rw (le-ltb at (length s) (omega arith)) (ap (λ k. refused component.end k) (sym e))
  wanted_refused {at = at} (other {a} h) r = rw (lt-ltb at (length s) (omega (arith, r.ends)), first s r, ne_eqb a _ h)
  wanted_refused {octet} {at = at} (Unfound.unheld f) r =
      let (u, e) = begun f in
      let q = again s e r in
      rw (lt-ltb at (length s) (omega (arith, q.ends)), eq-eqb _ _ (first s q)) (contents_refused f r)

  -- ---- the parameters
  parameters_refused : {room at : ℕ} {t : Octets} {n d : ℕ} → InSet room at t n d → Rest s at t → parameters room s at (length s) ≡ refused n d
  unfolding parameters parameter_at parameter
  parameters_refused {at = at} InSet.one_too_many r = rw (lt-leb (length s) at (omega (arith, r.ends)))
  parameters_refused {at = at} (InSet.no_identifier h) r =
      rw (lt-leb (length s) at (omega (arith, r.ends)), seen s r, ill_formed (at_octets s r o) h)
  parameters_refused {at = at} (InSet.unheld {head = head} i f) r =
      let (u, e) = begun f in
      let q = again s e r in
      let z = length-append head u in
      rw (lt-leb (length s) at (omega (arith, q.ends, Identifier.sizes i)), seen s q, Identifier.complete i u, contents_refused f r)
  parameters_refused {room = suc room} {at = at} (InSet.later {head = head} {body} {e} {rest} i l f) r =
      let (x, g, b) = contents_found s l r in
      let (u, h) = begins l rest in
      let q = again s h r in
      let z = length-append head u in
      let m : x.start + (x.end - x.start) ≡ at + length e = omega (arith, b.ends, b.order) in
      let k = parameters_refused f (behind s e r) in
      rw (lt-leb (length s) at (omega (arith, q.ends, Identifier.sizes i)), seen s q, Identifier.complete i u, g, m, k)

  -- ---- the head, and the walk over the parameters behind it
  module _ (kind : ℕ) (id : Span) (code : ℕ) where
    abbrev headed : Span → Answer Head
    headed f = accepted (record { kind = kind; id = id; code = code; set = f.start })

    set_refused : {at : ℕ} {t : Octets} {n d : ℕ} → NoSet at t n d → Rest s at t → ((set_at s at (length s) >>= headed) >>= walk s) ≡ refused n d
    unfolding set_at walk
    set_refused (NoSet.unfound f) r = rw (wanted_refused f r)
    set_refused (NoSet.left_over (left {body} {e} a rest l)) r =
        let (x, g, b) = wanted_found s 8 l r in
        let z = length-append e (a ∷ rest) in
        let h : x.end < length s = omega (arith, b.ends, r.ends) in
        rw (g, ne_eqb x.end (length s) (omega arith)) (ap (λ k. refused component.rest k) b.ends)
    set_refused (NoSet.inside {field} {set} f i) r =
        let q = again s {u = (0xF2 ∷ (field ++ set)) ++ []} (sym (append-nil _)) r in
        let (x, g, b) = wanted_found s 8 (laid field f) q in
        let (c, e, h) = filled s field r b in
        let k = parameters_refused (rw e at i) c in
        rw (g, eq-eqb x.end (length s) h, k)

  -- ---- the code
  not_code : (family : Bool) {A : Type 0} {start size have n d : ℕ} (a : Answer A) (body rest : Octets) → Rest s start (body ++ rest) → have ≡ length body →
      ((code : Octets) → length code ≡ size → body ≡ with_family family code → ⊥) →
      (check (eqb have (family_size family + size)) n d >> (check (not family || eqb (get_or s start 0) 9) n d >> a)) ≡ refused n d
  not_code true {size = size} {have} a [] rest r e h = rw (ne_eqb have (1 + size) (omega arith))
  not_code true {size = size} {have} a (b ∷ body) rest r e h =
      ask (ℕ_discrete (length body) size)
      (λ l. rw (eq-eqb have (1 + size) (omega arith), first s r, ne_eqb b 9 (λ nine. h body l (rw nine))))
      (λ k. rw (ne_eqb have (1 + size) (λ q. k (omega arith))))
  not_code false {size = size} {have} a body rest r e h = rw (ne_eqb have (0 + size) (λ q. h body (omega arith) refl))

  code_found : {coding : Coding} {at : ℕ} {code e : Octets} (rest : Octets) → Coded coding code e → Rest s at (e ++ rest) →
      (x : Span) × (code_at s coding at (length s) ≡ accepted x) × (at + length e ≡ x.end)
  unfolding code_at coded_at
  code_found {at = at} rest absent r = (span at at, refl, omega arith)
  code_found {coding = coded octet number true size} rest (present l w) r =
      let (x, g, b) = wanted_found s number w r in
      (span (x.start + 1) x.end, rw (g, eq-eqb (size_of x) (1 + size) (omega (arith, b.size)), first s b.starts), sym b.ends)
  code_found {coding = coded octet number false size} rest (present l w) r =
      let (x, g, b) = wanted_found s number w r in
      (span (x.start + 0) x.end, rw (g, eq-eqb (size_of x) (0 + size) (omega (arith, b.size))), sym b.ends)

  code_refused : (kind : ℕ) (i : Span) {t : Octets} {n d : ℕ} → NoCode i.end (coding_of kind) t n d → Rest s i.end t →
      (behind_id s kind i (length s) >>= walk s) ≡ refused n d
  unfolding behind_id code_at coded_at
  code_refused kind i f r = go (coding_of kind) f r
    where
      go : (coding : Coding) {t : Octets} {n d : ℕ} → NoCode i.end coding t n d → Rest s i.end t →
          ((code_at s coding i.end (length s) >>= λ d. set_at s d.end (length s) >>= headed kind i d.start) >>= walk s) ≡ refused n d
      go (coded octet number family size) (NoCode.unfound f) r = rw (wanted_refused f r)
      go (coded octet number family size) (NoCode.another {body} rest l h) r =
          let (x, g, b) = wanted_found s number l r in
          rw (g, not_code family _ body rest b.starts b.size h)
      go coding (NoCode.behind {e = e} {rest = rest} w f) r =
          let (x, g, q) = code_found rest w r in
          rw g (set_refused kind i x.start (rw q at f) (moved s q (behind s e r)))

  -- the contents of a component
  body_refused : {kind : ℕ} → Typed kind → (x : Span) → x.end ≡ length s → {t : Octets} {n d : ℕ} → NoBody kind x.start t n d → Rest s x.start t →
      (body_at s kind x >>= walk s) ≡ refused n d
  unfolding body_at
  body_refused typed x last (NoBody.unfound f) r = rw (last, wanted_refused f r)
  body_refused typed x last (NoBody.sized rest l h) r =
      let (i, g, b) = wanted_found s 6 l r in
      rw (last, g, b.size, misfits typed h)
  body_refused {kind} typed x last (NoBody.behind {i = j} l a f) r =
      let (i, g, b) = wanted_found s 6 l r in
      let e : x.start + length j ≡ i.end = sym b.ends in
      rw (last, g, b.size, fits a) (code_refused kind i (rw e at f) (moved s e (behind s j r)))

pub all : (s : Octets) → Rest s 0 s
all s = record { octets = refl; ends = zero-add (length s) }

-- a component of a type, within 4,096 octets
module _ (s : Octets) (o : AreOctets s) (short : length s ≤ 4096) (some : 0 < length s) where
  opened : Typed (get_or s 0 0) → {n d : ℕ} → contents s 0 1 (length s) ≡ refused n d → layout_of s ≡ refused n d
  unfolding layout_at layout_behind head_at head_from
  opened typed e = rw (lt-ltb 0 (length s) some, le-leb (length s) 4096 short, known typed, e)

  longer : Typed (get_or s 0 0) → {x : Span} → contents s 0 1 (length s) ≡ accepted x → x.end < length s → layout_of s ≡ refused component.rest x.end
  unfolding layout_at layout_behind head_at head_from
  longer typed {x} e h = rw (lt-ltb 0 (length s) some, le-leb (length s) 4096 short, known typed, e, ne_eqb x.end (length s) (omega arith))

  inside : Typed (get_or s 0 0) → {x : Span} → contents s 0 1 (length s) ≡ accepted x → x.end ≡ length s → {t : Octets} {n d : ℕ} →
      NoBody (get_or s 0 0) x.start t n d → Rest s x.start t → layout_of s ≡ refused n d
  unfolding layout_at layout_behind head_at head_from walk
  inside typed {x} e last f r =
      rw (lt-ltb 0 (length s) some, le-leb (length s) 4096 short, known typed, e, eq-eqb x.end (length s) last) (body_refused s o typed x last f r)

  whole_refused : {kind : ℕ} {t : Octets} {n d : ℕ} → s ≡ t → Typed kind → Whole kind t n d → layout_of s ≡ refused n d
  whole_refused p typed (Whole.unheld f) =
      let (u, e) = begun f in
      let r = again s p (all s) in
      opened (rw (← first s (again s e r)) at typed) (contents_refused s o f r)
  whole_refused p typed (Whole.left_over (left {body} {e} a rest l)) =
      let r = again s p (all s) in
      let (x, g, b) = contents_found s l r in
      let (u, h) = begins l (a ∷ rest) in
      let z = length-append e (a ∷ rest) in
      let k : x.end ≡ length e = b.ends ∙ zero-add (length e) in
      longer (rw (← first s (again s h r)) at typed) g (omega (arith, r.ends)) ∙ ap (λ k. refused component.rest k) b.ends
  whole_refused {kind} p typed (Whole.inside {field} {body} f h) =
      let r = again s p (all s) in
      let q = again s (sym (append-nil _)) r in
      let (x, g, b) = contents_found s {head = kind ∷ []} {body = body} {rest = []} (laid field f) q in
      let (c, to, last) = filled s field r b in
      let e : 1 + length field ≡ x.start = omega (arith, to) in
      let k = first s r in
      inside (rw (← k) at typed) g last (rw (← k, e) at h) c

some : {kind : ℕ} {t : Octets} {n d : ℕ} → Whole kind t n d → 0 < length t
some (Whole.unheld f) = let (u, e) = begun f in rw e (omega arith)
some (Whole.left_over (left a rest l)) = let (u, e) = begins l (a ∷ rest) in rw e (omega arith)
some (Whole.inside f h) = omega arith

-- ---- back: a fault is what the layout refuses with
pub refuses : {s : Octets} → AreOctets s → {n d : ℕ} → Faulty n d s → layout_of s ≡ refused n d
unfolding layout_at layout_behind head_at head_from
refuses o Faulty.empty = refl
refuses {s} o (Faulty.long h) = rw (lt-ltb 0 (length s) (omega arith), lt-leb (length s) 4096 h)
refuses {s} o (Faulty.untyped {a} h f) = rw (lt-ltb 0 (length s) (omega arith), le-leb (length s) 4096 h, unknown f)
refuses {s} o (Faulty.whole h typed f) = whole_refused s o h (some f) refl typed f
