-- How a layout shows a component: type, ID octets, code, and each parameter by an entry, one of no octets included.
use Prim.Native.Nat.{◌+◌, ◌-◌, ◌≤◌}
use mathlib.Core.Path.{◌≡◌, refl, ◌∙◌}
use mathlib.Core.List.{List, [], ◌++◌, map, append_assoc, append-nil}
use lib.ListN.{length, take, drop, length-append}
use lib.Seq.{drop-append_seam, take-append_seam}
use native.Mathlib.Omega.{arith}
use Rattle.element.specs.Octets.{Octets, between}
use Rattle.element.specs.Identifier.{IdentifierField}
use Rattle.component.specs.Table.{Entry}
use Rattle.component.specs.Onward.{entry_on}
use Rattle.component.specs.Standing.{entry_at, Shows, Pairwise, none, more, entries_at, standing}
use Rattle.component.specs.Layout.{code_octets, Layout}
use Rattle.component.specs.Grammar.{Parameter, Element, laid, Parameters, Component, Laid}

module _ {s : Octets} {e : Entry} {p : Parameter} (h : Shows s e p) where
  abbrev front : Octets
  front = h.before ++ h.identifier ++ h.field

  whole : s ≡ front ++ (p.content ++ h.behind)
  whole = h.octets ∙ append_assoc front p.content h.behind

  pub inside : e.start + e.size ≤ length s
  inside = rw whole (simp length-append (omega (arith, h.start, h.size, length-append (h.before ++ h.identifier) h.field, length-append h.before h.identifier)))

  pub content : take e.size (drop e.start s) ≡ p.content
  content = rw (h.start, h.size, whole, drop-append_seam front (p.content ++ h.behind)) (take-append_seam p.content h.behind)

-- ---- the entries of a layout show its parameters
one_shown : (before : Octets) (p : Parameter) {head e : Octets} (behind : Octets) → IdentifierField p.number p.form head → Element head p.content e →
    Shows (before ++ e ++ behind) (entry_at (length before) e p) p
unfolding entry_at
one_shown before p {head} behind n (laid field l) =
    record {
      before = before;
      identifier = head;
      field = field;
      behind = behind;
      octets = simp append_assoc;
      identified = n;
      sized = l;
      number = refl;
      form = refl;
      place = refl;
      start = simp length-append (omega arith);
      size = refl;
    }

entries_show : (before : Octets) {ps : List Parameter} {set : Octets} (r : Parameters ps set) (behind : Octets) →
    Pairwise (Shows (before ++ set ++ behind)) (entries_at (length before) r) ps
unfolding entries_at
entries_show before Parameters.none behind = none
entries_show before (Parameters.more p {s = e} {rest = rest} n w r) behind =
    let first = one_shown before p (rest ++ behind) n w in
    let others = entries_show (before ++ e) r behind in
    simp append_assoc (more (simp append_assoc at first) (simp (append_assoc, length-append) at others))

-- the set's contents are the last of the set, and the set is the last of the component
set_show : {ps : List Parameter} {head set f kind s : Octets} → (r : Parameters ps set) (before : Octets) → Element head set f → Element kind (before ++ f) s →
    Pairwise (Shows s) (entries_at (length s - length set) r) ps
set_show {head = head} {set} {kind = kind} r before (laid field v) (laid length-of x) =
    let front = kind ++ length-of ++ before ++ head ++ field in
    let f : kind ++ length-of ++ (before ++ (head ++ field ++ set)) ≡ front ++ set = simp append_assoc in
    let at : length (front ++ set) - length set ≡ length front = omega (arith, length-append front set) in
    rw (f, at) (rw append-nil at (entries_show front r []))

pub standing_show : {c : Component} {s : Octets} (h : Laid c s) → Pairwise (Shows s) (standing h) c.parameters
unfolding standing
standing_show h = set_show h.parameters (h.id ++ h.code) h.collected h.whole

-- ---- and where other octets stand before it and behind it, the same entries moved on
one_on : (before behind : Octets) {s : Octets} {e : Entry} {p : Parameter} → Shows s e p → Shows (before ++ s ++ behind) (entry_on (length before) e) p
one_on before behind h =
    record {
      before = before ++ h.before;
      identifier = h.identifier;
      field = h.field;
      behind = h.behind ++ behind;
      octets = rw h.octets (simp append_assoc);
      identified = h.identified;
      sized = h.sized;
      number = h.number;
      form = h.form;
      place = rw h.place (simp length-append);
      start = rw h.start (simp length-append (omega arith));
      size = h.size;
    }

pub shows_on : (before behind : Octets) {s : Octets} {es : List Entry} {ps : List Parameter} → Pairwise (Shows s) es ps →
    Pairwise (Shows (before ++ s ++ behind)) (map (entry_on (length before)) es) ps
shows_on before behind none = none
shows_on before behind (more h r) = more (one_on before behind h) (shows_on before behind r)

pub record Outlines (s : Octets) (l : Layout) (c : Component) : Type 0 where
  pub kind : l.head.kind ≡ c.kind
  pub id : between l.head.id.start l.head.id.end s ≡ c.id
  pub code : code_octets s l.head ≡ c.code
  pub shows : Pairwise (Shows s) l.entries c.parameters
