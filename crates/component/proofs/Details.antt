-- What a fault points to: each number is one of the paper's list, and each place is in the octets or where they end.
use Prim.Native.Nat.{ℕ, zero, suc, ◌+◌, ◌-◌, ◌*◌, ◌<◌, ◌≤◌}
use mathlib.Core.Path.{◌≡◌, refl, ap}
use mathlib.Core.Bool.{Bool, true, false}
use mathlib.Core.List.{List, ◌∷◌, ◌++◌, Memᴰ}
use lib.ListN.{length, take, drop, get_or, length-append, length-take}
use lib.Dec.{eqb}
use native.Mathlib.Omega.{arith}
use Rattle.element.specs.Octets.{Octets, AreOctets, if}
use Rattle.element.proofs.LengthLaws as Length
use Rattle.element.proofs.IdentifierLaws as Identifier
use Rattle.element.specs.Length.{field_size}
use Rattle.component.specs.Types.{Coding, uncoded, coded, coding_of, code_size}
use Rattle.component.specs.Layout.{code_octets}
use Rattle.component.specs.Grammar.{Parameter, Parameters, none, more, Component, Laid}
use Rattle.component.specs.Faults.{component, Unheld, no_field, overrun, Unfound, ended, other, LeftOver, left, InSet, NoSet, NoCode, NoBody, Whole, Faulty, LaidOut}
use Rattle.component.specs.Table.{Entry, width, held, held_from, parameter_of, parameters_from}
use Rattle.component.specs.Standing.{entry_at, entries_at, standing, operation_at}
use Rattle.component.specs.Needed.{element_size, set_size, coding_size, body_size, octets_needed}
use Rattle.component.proofs.Complete.{longer, complete}
use Rattle.component.proofs.Parts.{octets_between}
use Rattle.component.proofs.Typing.{of_each, most_two}

-- a refusal's number: an octet, not 0, which is an acceptance, and not 18, which has no sense
abbrev pub Given : (number : ℕ) → Type 0
Given n = (0 < n) × (n < 256) × (n ≡ 18 → ⊥)

-- `at` octets stand before these
abbrev pub Listed : (at : ℕ) → Octets → (number detail : ℕ) → Type 0
Listed at s n d = Given n × (d ≤ at + length s)

pub unheld : {head s : Octets} {at n d : ℕ} → Unheld component head at s n d → Listed at s n d
unheld {head} (no_field s h) = omega (arith, length-append head s)
unheld (overrun rest f h) = omega arith

pub unfound : {octet number at n d : ℕ} {s : Octets} → Given number → Unfound component octet number at s n d → Listed at s n d
unfound g ended = omega arith
unfound g (other f) = omega arith
unfound g (Unfound.unheld u) = unheld u

left_over : {head s : Octets} {at n d : ℕ} → LeftOver component head at s n d → Listed at s n d
left_over (left {e = e} a rest w) = omega (arith, length-append e (a ∷ rest))

in_set : {room at n d : ℕ} {s : Octets} → InSet room at s n d → Listed at s n d
in_set InSet.one_too_many = omega arith
in_set (InSet.no_identifier h) = omega arith
in_set (InSet.unheld i u) = unheld u
in_set (InSet.later {e = e} {rest = rest} i w f) = omega (arith, length-append e rest, in_set f)

no_set : {at n d : ℕ} {s : Octets} → NoSet at s n d → Listed at s n d
no_set (NoSet.unfound f) = unfound (omega arith) f
no_set (NoSet.left_over f) = left_over f
no_set (NoSet.inside {field = field} {set = set} l f) = omega (arith, length-append field set, in_set f)

-- what refuses a code
abbrev Refusable : Coding → Type 0
Refusable uncoded = Unit
Refusable (coded octet number family size) = Given number

refusable : (kind : ℕ) → Refusable (coding_of kind)
refusable = of_each (λ f. Refusable f.coding) (omega arith) tt (omega arith) (omega arith)

no_code : {coding : Coding} {at n d : ℕ} {s : Octets} → Refusable coding → NoCode at coding s n d → Listed at s n d
no_code q (NoCode.unfound f) = unfound q f
no_code q (NoCode.another rest w h) = omega arith
no_code q (NoCode.behind {e = e} {rest = rest} w f) = omega (arith, length-append e rest, no_set f)

no_body : {kind at n d : ℕ} {s : Octets} → NoBody kind at s n d → Listed at s n d
no_body (NoBody.unfound f) = unfound (omega arith) f
no_body (NoBody.sized rest w h) = omega arith
no_body {kind} (NoBody.behind {i = i} {rest = rest} w a f) = omega (arith, length-append i rest, no_code (refusable kind) f)

whole : {kind n d : ℕ} {s : Octets} → Whole kind s n d → Listed 0 s n d
whole (Whole.unheld u) = unheld u
whole (Whole.left_over f) = left_over f
whole (Whole.inside {field = field} {body = body} l f) = omega (arith, length-append field body, no_body f)

pub listed : {n d : ℕ} {s : Octets} → Faulty n d s → Given n × (d ≤ 4096)
listed Faulty.empty = omega arith
listed (Faulty.long h) = omega arith
listed (Faulty.untyped h k) = omega arith
listed (Faulty.whole h k f) = omega (arith, whole f)

-- ---- where the entries of a component stand
placed : (place : ℕ) {ps : List Parameter} {s : Octets} (r : Parameters ps s) {x : Entry} → Memᴰ x (entries_at place r) → x.place ≤ place + length s
unfolding entries_at entry_at
placed place none m = elim m [ ]
placed place (more p n w r) (Memᴰ.head q) = omega (arith, ap (λ x. x.place) q)
placed place (more p {s = e} {rest = rest} n w r) (Memᴰ.tail m) = omega (arith, length-append e rest, placed (place + length e) r m)

pub stands_in : {c : Component} {s : Octets} (h : Laid c s) {x : Entry} → Memᴰ x (standing h) → x.place ≤ length s
unfolding standing
stands_in h m = omega (arith, placed _ h.parameters m, longer h.collected, longer h.whole, length-append (h.id ++ h.code) h.set)

-- ---- what a component shows of itself is octets
module _ {c : Component} {s : Octets} (o : AreOctets s) (h : LaidOut c s) where
  pub id_octets_lem : AreOctets c.id
  id_octets_lem =
      let (l, _, q) = complete h.laid h.within h.few in
      rw q.outlines.id at (octets_between s o l.head.id.start l.head.id.end)

  pub code_octets_lem : AreOctets c.code
  unfolding code_octets
  code_octets_lem =
      let (l, _, q) = complete h.laid h.within h.few in
      let a = l.head.code in
      let n = code_size (coding_of l.head.kind) in
      let e : (a + n) - a ≡ n = omega arith in
      rw q.outlines.code at (rw e at (octets_between s o a (a + n)))

pub two_octets : {c : Component} {s : Octets} → Laid c s → (c.kind < 256) × (length c.id ≤ 2)
two_octets {c} h = let (t, _, m) = h.allowed in omega (arith, most_two c.kind)

pub operation_in_lem : {c : Component} {s : Octets} (h : Laid c s) → operation_at h ≤ length s
unfolding operation_at
operation_in_lem {c} {s} h = go (eqb c.kind 0xE9)
  where
    go : (t : Bool) → if t (length s - (length h.set + length c.code)) 0 ≤ length s
    go true = omega arith
    go false = omega arith

-- ---- how many octets are needed of entries whose lengths have two octets
coding_most : (kind : ℕ) → coding_size (coding_of kind) ≤ 4
unfolding coding_size element_size field_size
coding_most = of_each (λ f. coding_size f.coding ≤ 4) (omega arith) (omega arith) (omega arith) (omega arith)

module _ (t : List ℕ) (source : Octets) (h : (i : ℕ) → get_or t i 0 < 65536) where
  set_most : (i n : ℕ) → set_size (parameters_from i n t source) ≤ n * 65542
  unfolding set_size parameters_from held_from parameter_of element_size
  set_most i zero = omega arith
  set_most i (suc n) =
      let e = held t i in
      let content = drop e.start source in
      omega (arith, h (width * i + 3), length-take e.size content, Identifier.small e.number refl, Length.small (length (take e.size content)) refl, set_most (i + 1) n)

  pub needed_most : (kind id n : ℕ) → id ≤ 2 → n ≤ 64 → octets_needed kind id (parameters_from 0 n t source) < 4294967296
  unfolding octets_needed body_size element_size
  needed_most kind id n k l =
      let set = set_size (parameters_from 0 n t source) in
      omega (arith, set_most 0 n, coding_most kind, Length.small id refl, Length.small set refl, Length.small (body_size kind id set) refl)
