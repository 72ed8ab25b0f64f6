-- What the package reader hands back by value is what it tells, and gives the lines that are listed.
use Rattle.std.proofs.Common.{◌≡◌, ℕ, suc, ◌+◌, ◌-◌, ◌%◌, ◌<◌, ◌≤◌, Bool, true, false, eqb, List, ◌++◌, map, length, replicate, sym, refl, ap, ◌∙◌, arith, get_or-drop}
use lib.Seq.{take-append_seam}
use Rattle.element.specs.Octets.{Octets, AreOctets, if}
use Rattle.element.specs.Answer.{Answer, accepted, refused}
use Rattle.component.specs.Table.{table_size}
use Rattle.component.proofs.Parts.{octets_between}
use Rattle.component.proofs.Deciding.{behind}
use Rattle.operation.specs.Caller.{Told}
use Rattle.operation.specs.Packed.{packed_reading, octet_at, detail_in, told_in, unpacked_reading}
use Rattle.operation.proofs.Packing.{apart}
use Rattle.package.specs.declared.Packages as S
use Rattle.package.specs.Grammar.{Sequence}
use Rattle.package.specs.Caller.{Inside, Parcel}
use Rattle.package.specs.Told.{answer_in, outlined, summary_of, places_with, summaries_with, places_after, summaries_after}
use Rattle.package.specs.Demands.{alone, AllAccepted, inside_from, first_place, tells}
use Rattle.package.specs.Model.{reader}
use Rattle.package.proofs.Standing.{components_stand}
use Rattle.package.proofs.Reader.{accepts_rightly, reader_accepts}
use Rattle.lines.specs.Packages.{package_lines, eight_of, packages}
use Rattle.lines.specs.inner.Parcels.{count_in, insides, parcel_in}
use Rattle.lines.proofs.Parcels.{lines_short}

-- ---- the components of a package that is accepted
abbrev Apart : List Inside → Type 0
Apart cs = (ps ss : List ℕ) → insides (length cs) (map (λ c. c.place) cs ++ ps) (map summary_of cs ++ ss) ≡ cs

octets_before : (o rest : Octets) → AreOctets (o ++ rest) → AreOctets o
octets_before o rest h i =
    let n : length o - 0 ≡ length o = omega arith in rw (n, take-append_seam o rest) at (octets_between (o ++ rest) h 0 (length o) i)

told_apart : (o : Octets) → AreOctets o → (given : ℕ) → given < 256 → {x : Told} → (alone o given).answer ≡ accepted x → told_in (packed_reading (accepted x)) ≡ x
unfolding unpacked_reading
told_apart o h given k {x} e = go (eqb (octet_at r 0) 0) (rw e at (apart.reading o given (replicate table_size 0) h k))
  where
    r : ℕ
    r = packed_reading (accepted x)

    go : (b : Bool) → if b (accepted (told_in r)) (refused (octet_at r 0) (detail_in r)) ≡ accepted x → told_in r ≡ x
    go true f = cc
    go false f = let z : ◌≡◌ {A = ℕ} 0 1 = cc in absurd (omega arith)

as_many : (at : ℕ) {os : List Octets} {specifiers : ℕ} {xs : List Told} → AllAccepted os specifiers xs → length (inside_from at os xs) ≡ length os
unfolding inside_from
as_many at AllAccepted.none = refl
as_many at (AllAccepted.more {o} e k) = ap suc (as_many (at + length o) k)

all_apart : {os : List Octets} {t : Octets} → Sequence os t → AreOctets t → (at : ℕ) {specifiers : ℕ} {xs : List Told} → AllAccepted os specifiers xs →
    Apart (inside_from at os xs)
unfolding inside_from insides
all_apart Sequence.none h at AllAccepted.none ps ss = refl
all_apart (Sequence.more {o = o} {rest} w q) h at (AllAccepted.more {specifiers = specifiers} e k) ps ss =
    rw (told_apart o (octets_before o rest h) (specifiers % 256) (omega arith) e, all_apart q (behind h o rest refl) (at + length o) k ps ss)

-- ---- what is handed back
abbrev Sound : Answer Parcel → Type 0
Sound (accepted p) = (length p.components ≤ 8) × Apart p.components
Sound (refused n d) = Unit

told_back : (a : Answer Parcel) (r : S.Packages) → Sound a → answer_in r.answer ≡ outlined a → r.places ≡ places_after (replicate 8 0) a →
    r.components ≡ summaries_after (replicate 8 0) a → (count_in (answer_in r.answer) ≤ 8) × (parcel_in r ≡ a)
unfolding parcel_in outlined places_after places_with summaries_after summaries_with
told_back (accepted p) r (few, is) e f g = (rw e few, rw (e, f, g, is _ _))
told_back (refused n d) r _ e f g = (rw e (omega arith), rw e)

module _ (s : Octets) (o : AreOctets s) (specifiers : ℕ) (t : List ℕ) where
  sound : (a : Answer Parcel) → (reader s specifiers t).answer ≡ a → Sound a
  sound (accepted p) e =
      let (q, xs, h) = accepts_rightly s specifiers t o e in
      let g = h.laid_out.packaged in
      let rest = components_stand g in
      let f = sym e ∙ ap (λ r. r.answer) (reader_accepts s specifiers t h) in
      let is : p ≡ tells g xs = cc in
      let octets : AreOctets g.contents = λ i. rw (← rest.octets, get_or-drop) (o (first_place g + i)) in
      rw is (omega (arith, as_many (first_place g) h.accepted, h.few), all_apart g.components octets (first_place g) h.accepted)
  sound (refused n d) e = tt

-- ---- a package read by the kept specifier for all eight
pub record Handed (s : Octets) (specifier : ℕ) (t : List ℕ) (r : S.Packages) (after : List ℕ) : Type 0 where
  pub few : count_in (answer_in r.answer) ≤ 8
  pub lines : (item : ℕ) → package_lines item (parcel_in r) ≡ packages.lines item specifier (length t) s
  pub short : (item : ℕ) → length (package_lines item (parcel_in r)) ≤ packages.longest
  pub left : after ≡ packages.left specifier s t

pub handed : (s : Octets) → AreOctets s → (specifier : ℕ) (t : List ℕ) {eight : ℕ} → eight ≡ eight_of specifier → (r : S.Packages) {after : List ℕ} →
    (answer_in r.answer ≡ outlined (reader s eight t).answer) × (r.places ≡ places_after (replicate 8 0) (reader s eight t).answer)
    × (r.components ≡ summaries_after (replicate 8 0) (reader s eight t).answer) × (after ≡ (reader s eight t).table) → Handed s specifier t r after
handed s o specifier t {eight} e r (a, p, c, l) =
    let (few, is) = told_back (reader s eight t).answer r (sound s o eight t _ refl) a p c in
    record { few = few; lines = λ item. rw (is, e); short = λ item. lines_short item r few; left = l ∙ rw e }
