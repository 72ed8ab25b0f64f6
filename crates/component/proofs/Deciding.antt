-- Every octet string is laid out within the limits or has a fault: decided from left to right, over what is left.
use Prim.Native.Nat.{ℕ, zero, suc, ◌+◌, ◌<◌, ◌≤◌}
use mathlib.Core.Path.{◌≡◌, refl, sym, ap, ◌∙◌}
use mathlib.Core.Bool.{Bool, true, false}
use mathlib.Core.List.{List, [], ◌∷◌, ◌++◌, append_assoc, append-nil}
use lib.ListN.{length, take, drop, get_or, length-take, take-append-drop}
use lib.Seq.{get_or-append-add}
use native.Mathlib.Decide.{dec_le, ℕ_discrete}
use native.Mathlib.Omega.{arith}
use Rattle.std.specs.Prelude.{Option, Some, None}
use Rattle.element.specs.declared.Length as L
use Rattle.element.specs.declared.Identifier as I
use Rattle.element.specs.Octets.{Octets, AreOctets}
use Rattle.element.specs.Answer.{Answer, accepted, refused}
use Rattle.element.specs.Length.{LengthField}
use Rattle.element.specs.Identifier.{IdentifierField}
use Rattle.element.specs.Decoded.{length_at, identifier_at}
use Rattle.element.proofs.LengthLaws as Length
use Rattle.element.proofs.IdentifierLaws as Identifier
use Rattle.component.specs.Types.{Coding, uncoded, coded, format_of, coding_of, Typed, Allowed, with_family}
use Rattle.component.specs.Grammar.{Parameter, Element, laid, Parameters, none, more, Component, Coded, absent, present, Laid}
use Rattle.component.specs.Faults.{NoField, NoIdentifier, Numbers, component, Unheld, no_field, overrun, Unfound, ended, other, LeftOver, left, InSet, NoSet, NoCode, NoBody, Whole, Faulty, LaidOut}

-- what is wanted, or a fault
pub data Decided (P : Type 0) (F : ℕ → ℕ → Type 0) : Type 0 where
  fine : P → Decided P F
  fault : {n d : ℕ} → F n d → Decided P F

pub then : {P Q : Type 0} {F G : ℕ → ℕ → Type 0} → Decided P F → ((n d : ℕ) → F n d → G n d) → (P → Decided Q G) → Decided Q G
then (fine p) f k = k p
then (fault {n} {d} x) f k = fault (f n d x)

-- which of the two it was, where each is an answer of its own
module _ {A P : Type 0} {F : ℕ → ℕ → Type 0} {a : Answer A} where
  pub was_fault : Decided P F → (P → (x : A) × (a ≡ accepted x)) → ((n d : ℕ) → F n d → a ≡ refused n d) → {n d : ℕ} → a ≡ refused n d → F n d
  was_fault (fine p) f g e = let (x, k) = f p in let z : ◌≡◌ {A = ℕ} 0 1 = cc in absurd (omega arith)
  was_fault (fault {n = m} {d = c} x) f g {n} {d} e =
      let k = g m c x in
      let p : m ≡ n = cc in
      let q : c ≡ d = cc in
      rw (p, q) at x

  pub was_fine : Decided P F → ((n d : ℕ) → F n d → a ≡ refused n d) → {x : A} → a ≡ accepted x → P
  was_fine (fine p) g e = p
  was_fine (fault {n} {d} x) g e = let k = g n d x in let z : ◌≡◌ {A = ℕ} 0 1 = cc in absurd (omega arith)

pub ask : {P R : Type 0} → Dec P → (P → R) → ((P → ⊥) → R) → R
ask (yes p) f g = f p
ask (no n) f g = g n

pub dec_between : (a b c : ℕ) → Dec ((a ≤ b) × (b ≤ c))
dec_between a b c = ask (dec_le a b) (λ h. ask (dec_le b c) (λ k. yes (h, k)) λ n. no λ (_, k). n k) λ n. no λ (h, _). n h

pub behind : {s : Octets} → AreOctets s → (e rest : Octets) → s ≡ e ++ rest → AreOctets rest
behind o e rest p i = rw (get_or-append-add e rest i 0) at (rw p at o (length e + i))

no_length : {s : Octets} → length_at s ≡ None → NoField s
no_length e n field rest f p =
    let g = Length.complete f rest in
    let z : ◌≡◌ {A = ℕ} 0 1 = cc in
    omega arith

not_identified : {s : Octets} → identifier_at s ≡ None → NoIdentifier s
not_identified e number form head rest f p =
    let g = Identifier.complete f rest in
    let z : ◌≡◌ {A = ℕ} 0 1 = cc in
    omega arith

-- ---- one element at the head of what is left, and what is left behind it
pub record Held (head t : Octets) : Type 0 where
  pub body : Octets
  pub e : Octets
  pub rest : Octets
  pub element : Element head body e
  pub is : t ≡ e ++ rest

-- and one that fills what is left
pub record Filled (octet : ℕ) (t : Octets) : Type 0 where
  pub field : Octets
  pub body : Octets
  pub sized : LengthField (length body) field
  pub is : t ≡ octet ∷ (field ++ body)

overrun_at : {ns : Numbers} {head field t : Octets} (rest : Octets) {at n : ℕ} → t ≡ field ++ rest → LengthField n field → length rest < n → Unheld ns head at (head ++ t) ns.extent at
overrun_at rest p f h = rw p (overrun rest f h)

module _ (ns : Numbers) where
  pub hold : (head : Octets) (at : ℕ) (s : Octets) → AreOctets s → Decided (Held head (head ++ s)) (Unheld ns head at (head ++ s))
  hold head at s o = go (length_at s) refl
    where
      go : (l : Option L.Length) → length_at s ≡ l → Decided (Held head (head ++ s)) (Unheld ns head at (head ++ s))
      go (Some read) e =
          let n = read.value in
          let k = read.size in
          let (f, _) = Length.sound s o e in
          let r = drop k s in
          let p = sym (take-append-drop k s) in
          ask (dec_le n (length r))
          (λ h.
          let l : length (take n r) ≡ n = length-take n r ∙ omega arith in
          fine (record {
            body = take n r;
            e = head ++ take k s ++ take n r;
            rest = drop n r;
            element = laid (take k s) (rw l f);
            is = ap (λ t. head ++ t) (p ∙ ap (λ t. take k s ++ t) (sym (take-append-drop n r))) ∙ simp append_assoc;
          }))
          (λ h. fault (overrun_at r p f (omega arith)))
      go None e = fault (no_field s (no_length e))

  pub find : (octet number at : ℕ) (t : Octets) → AreOctets t → Decided (Held (octet ∷ []) t) (Unfound ns octet number at t)
  find octet number at [] o = fault ended
  find octet number at (a ∷ s) o =
      ask (ℕ_discrete a octet) (λ e. rw e (then (hold (octet ∷ []) at s (behind o (a ∷ []) s refl)) (λ n d f. Unfound.unheld f) (λ h. fine h))) (λ h. fault (other h))

  -- the element has to end where its parent ends
  pub fill : (at : ℕ) {octet : ℕ} {t : Octets} → Held (octet ∷ []) t → Decided (Filled octet t) (LeftOver ns (octet ∷ []) at t)
  fill at {octet} {t} h = go h.rest h.element h.is
    where
      go : {body e : Octets} (rest : Octets) → Element (octet ∷ []) body e → t ≡ e ++ rest → Decided (Filled octet t) (LeftOver ns (octet ∷ []) at t)
      go {body = body} [] (laid field f) p = fine (record { field = field; body = body; sized = f; is = p ∙ append-nil _ })
      go (a ∷ rest) w p = rw p (fault (left a rest w))

-- ---- the parameters
record Set (room : ℕ) (t : Octets) : Type 0 where
  ps : List Parameter
  laid : Parameters ps t
  few : length ps ≤ room

module _ {number form : ℕ} {head t : Octets} (i : IdentifierField number form head) (h : Held head t) where
  one_more : {room : ℕ} → Set room h.rest → Set (suc room) t
  one_more s = record { ps = record { number = number; form = form; content = h.body } ∷ s.ps; laid = rw h.is (more _ i h.element s.laid); few = omega arith }

  later : {room at n d : ℕ} → InSet room (at + length h.e) h.rest n d → InSet (suc room) at t n d
  later f = rw h.is (InSet.later i h.element f)

nothing : {room : ℕ} → Set room []
nothing = record { ps = []; laid = none; few = omega arith }

abbrev Sets : (room at : ℕ) (t : Octets) → Type 0
Sets room at t = Decided (Set room t) (InSet room at t)

next : (room at : ℕ) (t : Octets) → AreOctets t → ((to : ℕ) (rest : Octets) → AreOctets rest → Sets room to rest) → Sets (suc room) at t
next room at [] o again = fine nothing
next room at (a ∷ s) o again = go (identifier_at (a ∷ s)) refl
  where
    t : Octets
    t = a ∷ s

    go : (i : Option I.Identifier) → identifier_at t ≡ i → Sets (suc room) at t
    go (Some read) e =
        let number = read.number in
        let form = read.form in
        let k = read.size in
        let (f, _) = Identifier.sound t o e in
        let p = take-append-drop k t in
        then (rw p at (hold component (take k t) at (drop k t) (behind o (take k t) (drop k t) (sym p)))) (λ n d u. InSet.unheld f u) λ h.
        then (again (at + length h.e) h.rest (behind o h.e h.rest h.is)) (λ n d i. later f h i) λ s. fine (one_more f h s)
    go None e = fault (InSet.no_identifier (not_identified e))

parameters : (room at : ℕ) (t : Octets) → AreOctets t → Sets room at t
parameters zero at [] o = fine nothing
parameters zero at (a ∷ s) o = fault InSet.one_too_many
parameters (suc room) at t o = next room at t o λ to rest. parameters room to rest

-- ---- the set, which ends where its parent ends
record Closed (t : Octets) : Type 0 where
  octets : Octets
  set : Set 64 octets
  element : Element (0xF2 ∷ []) octets t

set_at : (at : ℕ) (t : Octets) → AreOctets t → Decided (Closed t) (NoSet at t)
set_at at t o =
    then (find component 0xF2 8 at t o) (λ n d f. NoSet.unfound f) λ h.
    then (fill component at h) (λ n d f. NoSet.left_over f) λ w.
    let q = w.is in
    then (parameters 64 (at + (1 + length w.field)) w.body (behind o (0xF2 ∷ w.field) w.body q)) (λ n d i. rw q (NoSet.inside w.sized i)) λ s.
    fine (record { octets = w.body; set = s; element = rw q (laid w.field w.sized) })

-- ---- the code, and the set behind it
record Behind (coding : Coding) (t : Octets) : Type 0 where
  code : Octets
  e : Octets
  f : Octets
  encoded : Coded coding code e
  set : Closed f
  is : t ≡ e ++ f

close_code : (at : ℕ) {coding : Coding} {t code e : Octets} (rest : Octets) → Coded coding code e → t ≡ e ++ rest → AreOctets t →
    Decided (Behind coding t) (NoCode at coding t)
close_code at {code = code} {e} rest w p o =
    then (set_at (at + length e) rest (behind o e rest p)) (λ n d f. rw p (NoCode.behind w f)) λ c.
    fine (record { code = code; e = e; f = rest; encoded = w; set = c; is = p })

abbrev Code : (family : Bool) (size : ℕ) → Octets → Type 0
Code family size body = (code : Octets) × (length code ≡ size) × (body ≡ with_family family code)

dec_code : (family : Bool) (size : ℕ) (body : Octets) → Dec (Code family size body)
dec_code true size [] = no λ (p, l, e). omega (arith, ap length e)
dec_code true size (a ∷ body) =
    ask (ℕ_discrete a 9)
    (λ e. ask (ℕ_discrete (length body) size) (λ l. yes (body, l, rw e)) λ n. no λ (p, l, q). n (omega (arith, ap length q)))
    λ n. no λ (p, l, e). n (ap (λ t. get_or t 0 0) e)
dec_code false size body = ask (ℕ_discrete (length body) size) (λ l. yes (body, l, refl)) λ n. no λ (p, l, e). n (ap length e ∙ l)

code_at_lem : (coding : Coding) (at : ℕ) (t : Octets) → AreOctets t → Decided (Behind coding t) (NoCode at coding t)
code_at_lem uncoded at t o = close_code at t absent refl o
code_at_lem (coded octet number family size) at t o =
    then (find component octet number at t o) (λ n d f. NoCode.unfound f) λ h. go h (dec_code family size h.body)
  where
    go : (h : Held (octet ∷ []) t) → Dec (Code family size h.body) → Decided (Behind (coded octet number family size) t) (NoCode at (coded octet number family size) t)
    go h (yes (code, l, e)) = close_code at h.rest (present l (rw e at h.element)) h.is o
    go h (no n) = let p = h.is in rw p (fault (NoCode.another h.rest h.element λ code l e. n (code, l, e)))

-- ---- the component ID, and what stands behind it
record Bodied (kind : ℕ) (t : Octets) : Type 0 where
  c : Component
  lays : (s : Octets) → Element (kind ∷ []) t s → Laid c s
  few : length c.parameters ≤ 64

pub dec_allowed : (kind size : ℕ) → Typed kind → Dec (Allowed kind size)
dec_allowed kind size t =
    ask (dec_between (format_of kind).fewest size (format_of kind).most) (λ (h, k). yes (t, h, k)) λ n. no λ (_, h, k). n (h, k)

body_at_lem : (kind at : ℕ) (t : Octets) → Typed kind → AreOctets t → Decided (Bodied kind t) (NoBody kind at t)
body_at_lem kind at t typed o = then (find component 0xCF 6 at t o) (λ n d f. NoBody.unfound f) λ h. go h (dec_allowed kind (length h.body) typed)
  where
    go : (h : Held (0xCF ∷ []) t) → Dec (Allowed kind (length h.body)) → Decided (Bodied kind t) (NoBody kind at t)
    go h (yes a) =
        then (code_at_lem (coding_of kind) (at + length h.e) h.rest (behind o h.e h.rest h.is)) (λ n d f. rw h.is (NoBody.behind h.element a f)) λ c.
        let q : t ≡ h.e ++ c.e ++ c.f = h.is ∙ ap (λ r. h.e ++ r) c.is ∙ simp append_assoc in
        fine (record {
          c = record { kind = kind; id = h.body; code = c.code; parameters = c.set.set.ps };
          lays = λ s w. record {
            id = h.e;
            code = c.e;
            set = c.f;
            contents = c.set.octets;
            allowed = a;
            identified = h.element;
            encoded = c.encoded;
            parameters = c.set.set.laid;
            collected = c.set.element;
            whole = rw q at w;
          };
          few = c.set.set.few;
        })
    go h (no n) = let p = h.is in rw p (fault (NoBody.sized h.rest h.element n))

-- ---- the component
pub dec_typed : (kind : ℕ) → Dec (Typed kind)
dec_typed kind = dec_between 0xE9 kind 0xEC

abbrev pub Outcome : Octets → Type 0
Outcome s = Decided ((c : Component) × LaidOut c s) (λ n d. Faulty n d s)

pub decide : (s : Octets) → AreOctets s → Outcome s
decide [] o = fault Faulty.empty
decide (a ∷ s) o =
    ask (dec_le (length (a ∷ s)) 4096) (λ short.
    ask (dec_typed a) (λ typed.
    then (hold component (a ∷ []) 0 s (behind o (a ∷ []) s refl)) (λ n d f. Faulty.whole short typed (Whole.unheld f)) λ h.
    then (fill component 0 h) (λ n d f. Faulty.whole short typed (Whole.left_over f)) λ w.
    let q = w.is in
    then (body_at_lem a (1 + length w.field) w.body typed (behind o (a ∷ w.field) w.body q)) (λ n d f. Faulty.whole short typed (rw q (Whole.inside w.sized f))) λ b.
    fine (b.c, record { laid = b.lays (a ∷ s) (rw q (laid w.field w.sized)); within = short; few = b.few }))
    (λ n. fault (Faulty.untyped short n)))
    (λ n. fault (Faulty.long (omega arith)))
