-- Demand 3 of ours: a package whose components have newcomers that their rows do not name is read as without them.
use Prim.Native.Nat.{ℕ, suc, ◌+◌, ◌%◌, ◌<◌}
use mathlib.Core.Path.{◌≡◌, refl, sym, ap, ◌∙◌}
use mathlib.Core.List.{List}
use mathlib.Core.Logic.{⊎_elim}
use lib.ListN.{length}
use native.Mathlib.Nat.{add-zero}
use native.Mathlib.Omega.{arith}
use Rattle.element.specs.Octets.{Octets, AreOctets}
use Rattle.element.specs.Answer.{Answer, accepted, refused}
use Rattle.component.specs.Grammar.{Component, Laid}
use Rattle.component.proofs.Deciding.{behind}
use Rattle.component.proofs.Parts.{octets_before}
use Rattle.component.proofs.Refusing.{at_octets}
use Rattle.operation.specs.Row.{Row}
use Rattle.operation.specs.Caller as O
use Rattle.operation.specs.Demands as D
use Rattle.operation.proofs.Truthful as C
use Rattle.package.specs.Grammar.{Package, Sequence}
use Rattle.package.specs.Demands.{alone, Few, AllAccepted, OneRefused, AllCarried, OneUncarried, first_place, LaidOut, ReaderRefuses, Grown, kept, grown, AllGrown, Says, arrivals, AllJoined, SameRefused, place_of, TruthfulPackage, both_accepted, same_component, same_carriage, Demand3}
use Rattle.package.specs.Model.{reader, Ours}
use Rattle.package.proofs.Standing.{components_stand}
use Rattle.package.proofs.Components.{zeros, carried_or_not}
use Rattle.package.proofs.Reader.{refuses, reader_accepts, refuses_rightly, accepts_rightly}
use Rattle.package.proofs.Writer.{writes_refusing, writes_accepting, writes_well}
use Rattle.package.proofs.ReadBack.{writes_then_reads}
use Rattle.package.proofs.Again.{reads_then_writes}

-- ---- one component: both are accepted, with so many other parameters more, or both are refused by one number
data Alike (n : ℕ) (older newer : Answer O.Told) : Type 0 where
  both : {x : O.Told} → older ≡ accepted x → newer ≡ accepted (D.joined x n) → Alike n older newer
  neither : {m d e : ℕ} → older ≡ refused m d → newer ≡ refused m e → Alike n older newer

itself : (a : Answer O.Told) → Alike 0 a a
itself (accepted x) = both refl (rw (add-zero x.all, add-zero x.other))
itself (refused m d) = neither refl refl

alike : {c d : Component} {o u : Octets} {x : Laid c o} {y : Laid d u} {row : Row} {j : D.Joined row c.parameters d.parameters} {t : List ℕ} {r v : O.Read} →
    D.Truthful x y j t r v → Alike (D.newcomers j) r.answer v.answer
alike (D.both_accepted a) = both refl refl
alike (D.same_missing number) = neither refl refl
alike (D.same_parameter n i h k) = neither refl refl

says : {given : ℕ} {o u : Octets} (g : Grown given o u) → AreOctets o → AreOctets u → Says g × Alike (arrivals g) (alone o given).answer (alone u given).answer
unfolding arrivals
says {given} {o} kept a b = (tt, itself (alone o given).answer)
says {given} (grown h k kind id code row j) a b =
    let v = (C.demand3_ours).truthful given _ _ _ _ zeros a b (omega arith) h k kind id code row j in
    (v, alike v)

-- ---- all of them, the first of which stand at `at` and at `on`
data Verdict (at on : ℕ) {os us : List Octets} {specifiers : ℕ} (g : AllGrown os us specifiers) : Type 0 where
  all : {xs ys : List O.Told} → AllAccepted os specifiers xs → AllAccepted us specifiers ys → AllJoined os us specifiers g xs ys → Verdict at on g
  one : {n d e : ℕ} → OneRefused at os specifiers n d → OneRefused on us specifiers n e → SameRefused at on os us specifiers g n d e → Verdict at on g

verdict : (at on : ℕ) {os us : List Octets} {specifiers : ℕ} {v w : Octets} → Sequence os v → Sequence us w → (g : AllGrown os us specifiers) →
    AreOctets v → AreOctets w → Verdict at on g
verdict at on Sequence.none Sequence.none AllGrown.none a b = all AllAccepted.none AllAccepted.none AllJoined.none
verdict at on Sequence.none (Sequence.more _ r) g a b = elim g [ ]
verdict at on (Sequence.more _ q) Sequence.none g a b = elim g [ ]
verdict at on {specifiers = specifiers} (Sequence.more {o = o} {rest} _ q) (Sequence.more {o = u} {rest = left} _ r) (AllGrown.more g gs) a b =
    let (s, l) = says g (octets_before o rest a) (octets_before u left b) in
    go s l (verdict (at + length o) (on + length u) q r gs (behind a o rest refl) (behind b u left refl))
  where
    go : Says g → Alike (arrivals g) (alone o (specifiers % 256)).answer (alone u (specifiers % 256)).answer → Verdict (at + length o) (on + length u) gs → Verdict at on (AllGrown.more g gs)
    go s (neither e f) v = one (OneRefused.here e) (OneRefused.here f) (SameRefused.here s e f)
    go s (both e f) (all x y j) = all (AllAccepted.more e x) (AllAccepted.more f y) (AllJoined.more s e j)
    go s (both e f) (one x y r) = one (OneRefused.later e x) (OneRefused.later f y) (SameRefused.later s e f r)

as_many : {os us : List Octets} {specifiers : ℕ} → AllGrown os us specifiers → length us ≡ length os
as_many AllGrown.none = refl
as_many (AllGrown.more g gs) = ap suc (as_many gs)

-- ---- Table 2 asks type, code and specifier, which are the same in both
module _ {older newer : ℕ} (same : newer ≡ older) where
  carried_too : {os us : List Octets} {specifiers : ℕ} {g : AllGrown os us specifiers} {xs ys : List O.Told} → AllJoined os us specifiers g xs ys →
      AllCarried older xs specifiers → AllCarried newer ys specifiers
  carried_too AllJoined.none AllCarried.none = AllCarried.none
  carried_too (AllJoined.more s e j) (AllCarried.more c k) = AllCarried.more (c ∙ sym same) (carried_too j k)

  uncarried_too : (at on : ℕ) {os us : List Octets} {specifiers d : ℕ} {g : AllGrown os us specifiers} {xs ys : List O.Told} → AllJoined os us specifiers g xs ys →
      OneUncarried older at os xs specifiers d →
      (i : ℕ) × (i < length os) × (d ≡ place_of at os i) × OneUncarried newer on us ys specifiers (place_of on us i)
  unfolding place_of
  uncarried_too at on AllJoined.none u = elim u [ ]
  uncarried_too at on (AllJoined.more s e j) (OneUncarried.here n) = (0, omega arith, refl, OneUncarried.here (λ c. n (c ∙ same)))
  uncarried_too at on (AllJoined.more {o} {u} s e j) (OneUncarried.later c k) =
      let (i, l, q, r) = uncarried_too (at + length o) (on + length u) j k in
      (suc i, omega arith, q, OneUncarried.later (c ∙ sym same) r)

module _ (s u : Octets) (t : List ℕ) {specifiers : ℕ} {p q : Package} (a : AreOctets s) (b : AreOctets u) (h : LaidOut s t p) (k : LaidOut u t q)
    (kind : q.kind ≡ p.kind) (few : Few (length p.components)) (g : AllGrown p.components q.components specifiers) where
  truthful : Few (length q.components) → Verdict (first_place h.packaged) (first_place k.packaged) g →
      TruthfulPackage h.packaged k.packaged t g (reader s specifiers t) (reader u specifiers t)
  truthful too (one x y r) =
      rw (refuses s specifiers t a (ReaderRefuses.refused_inside h few x), refuses u specifiers t b (ReaderRefuses.refused_inside k too y)) (same_component r)
  truthful too (all x y j) =
      ⊎_elim
      (λ c. rw (
        reader_accepts s specifiers t (record { laid_out = h; few = few; accepted = x; carried = c }),
        reader_accepts u specifiers t (record { laid_out = k; few = too; accepted = y; carried = carried_too kind j c }),
      ) (both_accepted j))
      (λ (d, f).
      let (i, l, e, n) = uncarried_too kind (first_place h.packaged) (first_place k.packaged) j f in
      rw (refuses s specifiers t a (ReaderRefuses.carriage h few x f), e, refuses u specifiers t b (ReaderRefuses.carriage k too y n)) (same_carriage i l))
      (carried_or_not p.kind (first_place h.packaged) x)

pub demand3_ours : Demand3 reader
demand3_ours =
    record {
      truthful = λ s u t a b h k kind few g.
          let v = h.packaged in
          let w = k.packaged in
          truthful s u t a b h k kind few g (rw (as_many g) few)
          (verdict _ _ v.components w.components g (at_octets s (components_stand v) a) (at_octets u (components_stand w) b));
    }

pub ours : Ours
unfolding Ours
ours =
    record {
      first = record { reader = λ s specifiers t o e. refuses_rightly s specifiers t o e; writer = λ o out e. writes_refusing o out e };
      second =
          record {
            reader = λ s specifiers t o e. accepts_rightly s specifiers t o e;
            shown = λ s specifiers t o h. reader_accepts s specifiers t h;
            writer = λ o out e. writes_accepting o out e;
            written = λ o out h. writes_well o out h;
            read_then_write = λ s specifiers t out o h l room. reads_then_writes s specifiers t out o h l room;
            write_then_read = λ o out t e enough oct. writes_then_reads o out t e enough oct;
          };
      third = demand3_ours;
    }
