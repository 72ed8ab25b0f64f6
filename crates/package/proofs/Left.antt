-- The components that are left of a package: what the first of them says, and what those behind it say then.
use Prim.Native.Nat.{ℕ, zero, suc, ◌+◌, ◌-◌, ◌/◌, ◌%◌, ◌<◌, ◌≤◌}
use mathlib.Core.Path.{◌≡◌, refl, sym, ap, ap₂, ◌∙◌}
use mathlib.Core.Bool.{Bool, true, false}
use mathlib.Core.List.{List, [], ◌∷◌}
use lib.ListN.{length, get_or, take}
use lib.Seq.{length-take-le}
use lib.Dec.{eqb}
use borrow.Author.Tests.{le-leb, lt-leb}
use native.Mathlib.Decide.{dec_le}
use native.Mathlib.Omega.{arith}
use Rattle.std.specs.Prelude.{Option, Some, None, ◌||◌}
use Rattle.std.specs.Option.{is_some}
use Rattle.element.specs.Octets.{Octets, AreOctets, if, between}
use Rattle.element.specs.Answer.{Answer, accepted, refused, ◌>>=◌, ◌>>◌, check}
use Rattle.component.specs.Layout.{Span, span, contents}
use Rattle.component.proofs.Taken.{taken}
use Rattle.component.proofs.Inside.{Held, inside}
use Rattle.component.specs.Table.{table_size, code_of}
use Rattle.component.proofs.Parts.{octets_between}
use Rattle.operation.specs.Reading.{Shown, reading_from, reading_at}
use Rattle.operation.specs.Told.{told_of, told}
use Rattle.operation.specs.Packed.{packed_reading, unpacked_reading, octet_at, told_in}
use Rattle.operation.specs.Summaries.{Summarizes}
use Rattle.operation.proofs.Again.{inner}
use Rattle.operation.proofs.Packing.{reading_apart}
use Rattle.operation.proofs.Inside.{asked_first, fits_from}
use Rattle.package.specs.Layout.{layout_fault, components_from}
use Rattle.package.proofs.Handed.{faultless}
use Rattle.package.specs.Reading.{Placed, read_each, carries, carried_in, tables_with}
use Rattle.package.specs.Told.{places_with, summaries_with}
use Rattle.package.specs.inner.Leftover.{Stand, closing, leftover, done, tables_rest, places_rest, summaries_rest}

-- ---- the first of them stands, and the others behind it
pub record Led (s : Octets) (at left : ℕ) : Type 0 where
  pub first : Span
  pub found : contents s at (at + 1) (length s) ≡ accepted first
  pub inside : at < length s
  pub held : Held (at + 1) (length s) first
  pub rest : Stand s first.end left

module _ (s : Octets) (o : AreOctets s) where
  leads : {at left : ℕ} → Stand s at (suc left) → Led s at left
  unfolding components_from
  leads {at} {left} h = go (dec_le (length s) at)
    where
      go : Dec (length s ≤ at) → Led s at left
      go (yes k) = let e = rw (le-leb _ _ k) at h.walked in absurd (omega (arith, h.all, ap length (inner e)))
      go (no k) =
          let e = rw (lt-leb (length s) at (omega arith)) at h.walked in
          let (x, f, g) = taken (layout_fault (contents s at (at + 1) (length s))) e in
          let (xs, p, q) = taken (components_from left s x.end) g in
          let held = inside s o at (faultless _ f) in
          record {
            first = x;
            found = faultless _ f;
            inside = omega arith;
            held = held;
            rest = record { some = omega (arith, held.behind, held.ordered); spans = xs; walked = p; all = omega (arith, h.all, ap length (inner q)) };
          }

  pub leads_on : {at : ℕ} (left : ℕ) → (left ≡ 0 → ⊥) → Stand s at left → Led s at (left - 1)
  leads_on zero n h = absurd (n refl)
  leads_on (suc left) n h = let e : suc left - 1 ≡ left = omega arith in rw e (leads h)

-- ---- what they say, where the first is at `at`
module _ (packet : ℕ) (s : Octets) {at left : ℕ} (more : left ≡ 0 → ⊥) (some : 0 < at) (d : Led s at (left - 1)) (specifiers : ℕ) (wrong : Option ℕ) where
  abbrev pub component : Answer Shown
  component = reading_from (take d.first.end s) at (specifiers % 256)

  abbrev pub carried : Shown → Bool
  carried y = carries packet y.kind (get_or y.code 0 0) (specifiers % 256)

  abbrev pub placed : Shown → Placed
  placed y = record { place = at; shown = y }

  -- the place of the first that is not carried, this one included
  abbrev pub wrongly : Shown → Option ℕ
  wrongly y = if (is_some wrong || carried y) wrong (Some at)

  walked : components_from left s at ≡ accepted (span at d.first.end ∷ d.rest.spans)
  unfolding components_from
  walked = let e : left ≡ suc (left - 1) = omega arith in rw (e, lt-leb _ _ d.inside, d.found, d.rest.walked)

  opened : leftover packet s at left specifiers wrong ≡
      (component >>= λ y. read_each s d.rest.spans (specifiers / 256) >>= λ ys. closing wrong >> (carried_in packet (placed y ∷ ys) specifiers >> accepted (placed y ∷ ys)))
  unfolding leftover read_each
  opened = rw walked (go component (read_each s d.rest.spans (specifiers / 256)))
    where
      go : (a : Answer Shown) (b : Answer (List Placed)) →
          ((a >>= λ y. b >>= λ ys. accepted (placed y ∷ ys)) >>= λ ys. closing wrong >> (carried_in packet ys specifiers >> accepted ys)) ≡
          (a >>= λ y. b >>= λ ys. closing wrong >> (carried_in packet (placed y ∷ ys) specifiers >> accepted (placed y ∷ ys)))
      go (accepted y) (accepted ys) = refl
      go (accepted y) (refused n e) = refl
      go (refused n e) b = refl

  pub stops : {n e : ℕ} → component ≡ refused n e → leftover packet s at left specifiers wrong ≡ refused n e
  stops f = opened ∙ rw f

  pub goes_on : {y : Shown} → component ≡ accepted y →
      leftover packet s at left specifiers wrong ≡ (leftover packet s d.first.end (left - 1) (specifiers / 256) (wrongly y) >>= λ ys. accepted (placed y ∷ ys))
  unfolding leftover closing carried_in
  goes_on {y} f = opened ∙ rw (f, d.rest.walked) (each (read_each s d.rest.spans (specifiers / 256)))
    where
      -- of one that is not carried before, this one, and those behind
      first_wrong : (wrong : Option ℕ) (c : Bool) (r : Answer Unit) (ys : List Placed) →
          (closing wrong >> ((check c 24 at >> r) >> accepted (placed y ∷ ys))) ≡
          ((closing (if (is_some wrong || c) wrong (Some at)) >> (r >> accepted ys)) >>= λ zs. accepted (placed y ∷ zs))
      first_wrong None true (accepted u) ys = refl
      first_wrong None true (refused n x) ys = refl
      first_wrong None false r ys = refl
      first_wrong (Some j) c r ys = refl

      each : (b : Answer (List Placed)) →
          (b >>= λ ys. closing wrong >> ((check (carried y) 24 at >> carried_in packet ys (specifiers / 256)) >> accepted (placed y ∷ ys))) ≡
          ((b >>= λ ys. closing (wrongly y) >> (carried_in packet ys (specifiers / 256) >> accepted ys)) >>= λ ys. accepted (placed y ∷ ys))
      each (accepted ys) = first_wrong wrong (carried y) (carried_in packet ys (specifiers / 256)) ys
      each (refused n x) = refl

-- ---- what the summary of the first says, read up to its end
module _ (s : Octets) (o : AreOctets s) (short : length s ≤ 4096) {at left : ℕ} (d : Led s at left) (given : ℕ) (octet : given < 256)
    {end : ℕ} (e : end ≡ d.first.end) where
  abbrev there : Answer Shown
  there = reading_from (take d.first.end s) at given

  up_to : between 0 end s ≡ take d.first.end s
  up_to = let n : end - 0 ≡ d.first.end = omega arith in ap (λ n. take n s) n

  size : length (take d.first.end s) ≡ d.first.end
  size = length-take-le d.first.end s d.held.inside

  octets : AreOctets (take d.first.end s)
  octets i = rw up_to at (octets_between s o 0 end i)

  pub is : reading_at (between 0 end s) at given table_size ≡ there
  is = rw up_to (asked_first (take d.first.end s) at given table_size (omega arith) (omega (arith, size, d.held.behind, d.held.ordered)) (omega (arith, size, d.held.inside)))

  pub few : {y : Shown} → there ≡ accepted y → length y.entries ≤ 64
  unfolding told
  few {y} f = (rw f at (fits_from (take d.first.end s) octets at given octet (omega (arith, size, d.held.behind, d.held.ordered)) (omega (arith, size, d.held.inside)))).2

  -- what is told of a refusal is the refusal
  pub refusing : {n d : ℕ} → refused n d ≡ told (reading_at (between 0 end s) at given table_size) → there ≡ refused n d
  unfolding told
  refusing {n} {d} q = go there (sym (ap told is) ∙ sym q)
    where
      go : (a : Answer Shown) → told a ≡ refused n d → a ≡ refused n d
      go (accepted y) f = let z : ◌≡◌ {A = ℕ} 0 1 = cc in absurd (omega arith)
      go (refused m c) f = let p : m ≡ n = cc in let r : c ≡ d = cc in ap₂ (λ a b. refused a b) p r

  pub accepting : {summary : ℕ} → Summarizes summary (told (reading_at (between 0 end s) at given table_size)) →
      (y : Shown) × (there ≡ accepted y) × (told_of y ≡ told_in summary) × (summary ≡ packed_reading (accepted (told_of y)))
  unfolding told unpacked_reading octet_at
  accepting {summary} q = go there refl
    where
      apart : unpacked_reading summary ≡ told there
      apart = rw (q.packed ∙ ap packed_reading (sym q.is), is) (reading_apart _ (fits_from (take d.first.end s) octets at given octet (omega (arith, size, d.held.behind, d.held.ordered)) (omega (arith, size, d.held.inside))))

      same : told there ≡ accepted q.told
      same = sym (ap told is) ∙ q.is

      told_so : (b : Bool) → (eqb (octet_at summary 0) 0) ≡ b → unpacked_reading summary ≡ accepted q.told → q.told ≡ told_in summary
      told_so true e f = sym (inner (rw e at f))
      told_so false e f = let g = rw e at f in let z : ◌≡◌ {A = ℕ} 0 1 = cc in absurd (omega arith)

      go : (a : Answer Shown) → there ≡ a → (y : Shown) × (there ≡ accepted y) × (told_of y ≡ told_in summary) × (summary ≡ packed_reading (accepted (told_of y)))
      go (accepted y) f =
          let e : told_of y ≡ q.told = inner (sym (ap told f) ∙ same) in
          (y, f, e ∙ told_so (eqb (octet_at summary 0) 0) refl (apart ∙ same), q.packed ∙ ap (λ x. packed_reading (accepted x)) (sym e))
      go (refused m c) f = let g = sym (ap told f) ∙ same in let z : ◌≡◌ {A = ℕ} 0 1 = cc in absurd (omega arith)

-- ---- the first is accepted: what those behind it are asked
module _ (packet : ℕ) (s : Octets) (o : AreOctets s) (short : length s ≤ 4096) {at left : ℕ} (more : left ≡ 0 → ⊥) (some : 0 < at)
    (d : Led s at (left - 1)) (specifiers : ℕ) (wrong : Option ℕ) where
  pub record Continued (end : ℕ) (now : Option ℕ) (summary : ℕ) : Type 0 where
    pub shown : Shown
    pub told_so : told_of shown ≡ told_in summary
    pub packed : summary ≡ packed_reading (accepted (told_of shown))
    pub read : reading_at (between 0 end s) at (specifiers % 256) table_size ≡ accepted shown
    pub few : length shown.entries ≤ 64
    pub is : leftover packet s at left specifiers wrong ≡
        (leftover packet s end (left - 1) (specifiers / 256) now >>= λ ys. accepted (record { place = at; shown = shown } ∷ ys))

  pub continues : {end : ℕ} {now : Option ℕ} {summary : ℕ} → end ≡ d.first.end → Summarizes summary (told (reading_at (between 0 end s) at (specifiers % 256) table_size)) →
      now ≡ if (is_some wrong || carries packet (told_in summary).kind (told_in summary).code.first (specifiers % 256)) wrong (Some at) →
      Continued end now summary
  unfolding code_of
  continues {end} {now} {summary} e q w =
      let octet : specifiers % 256 < 256 = omega arith in
      let (y, f, g, p) = accepting s o short d (specifiers % 256) octet e q in
      let v : now ≡ wrongly packet s more some d specifiers wrong y = w ∙ ap (λ x. if (is_some wrong || carries packet x.kind x.code.first (specifiers % 256)) wrong (Some at)) (sym g) in
      record {
        shown = y;
        told_so = g;
        packed = p;
        read = is s o short d (specifiers % 256) octet e ∙ f;
        few = few s o short d (specifiers % 256) octet e f;
        is = goes_on packet s more some d specifiers wrong f ∙ ap₂ (λ at now. leftover packet s at (left - 1) (specifiers / 256) now >>= λ ys. accepted (placed packet s more some d specifiers wrong y ∷ ys)) (sym e) (sym v);
      }

-- ---- none is left
pub none_left : (packet : ℕ) (s : Octets) (at specifiers : ℕ) (wrong : Option ℕ) {r : Answer Unit} → r ≡ closing wrong → (t p n : List ℕ) →
    let l = leftover packet s at 0 specifiers wrong in (r ≡ done l) × (t ≡ tables_rest t l) × (p ≡ places_rest p l) × (n ≡ summaries_rest n l)
unfolding leftover components_from read_each carried_in done tables_rest places_rest summaries_rest tables_with places_with summaries_with
none_left packet s at specifiers wrong e t p n = rw e (go (closing wrong))
  where
    go : (a : Answer Unit) → let l = a >> accepted [] in (a ≡ done l) × (t ≡ tables_rest t l) × (p ≡ places_rest p l) × (n ≡ summaries_rest n l)
    go (accepted u) = (refl, refl, refl, refl)
    go (refused m d) = (refl, refl, refl, refl)

pub all_done : {A : Type 0} (a : Answer A) → done a ≡ accepted tt → (x : A) × (a ≡ accepted x)
unfolding done
all_done (accepted x) e = (x, refl)
all_done (refused n d) e = let z : ◌≡◌ {A = ℕ} 0 1 = cc in absurd (omega arith)

pub not_done : {A : Type 0} (a : Answer A) {n d : ℕ} → done a ≡ refused n d → a ≡ refused n d
unfolding done
not_done (accepted x) e = let z : ◌≡◌ {A = ℕ} 0 1 = cc in absurd (omega arith)
not_done (refused m c) {n} {d} e = let p : m ≡ n = cc in let r : c ≡ d = cc in ap₂ (λ a b. refused a b) p r
