-- What is measured where the entries stand, by what they come to; and back from an outcome.
use Prim.Native.Nat.{ℕ, ◌*◌, ◌≤◌}
use mathlib.Core.Path.{◌≡◌, refl}
use mathlib.Core.Bool.{Bool, true, false}
use mathlib.Core.List.{List}
use lib.ListN.{length}
use lib.Dec.{leb}
use borrow.Author.Tests.{le-leb, leb-true}
use Rattle.element.specs.Octets.{Octets}
use Rattle.element.specs.Answer.{Answer, accepted, refused, ◌>>=◌, ◌>>◌, check}
use Rattle.component.specs.declared.Id as D
use Rattle.component.specs.Types.{Allowed, typed, id_fits}
use Rattle.component.specs.Grammar.{Parameter}
use Rattle.component.specs.Needed.{octets_needed}
use Rattle.component.specs.Table.{width}
use Rattle.component.specs.Composing.{entries_from, entries_of, sizes_of, measured}
use Rattle.component.specs.inner.Emitting.{sized, measured_of}
use Rattle.component.proofs.Taken.{taken, passed}
use Rattle.component.proofs.Typing.{allowed}

-- the last two steps: 15, and what is told
abbrev pub checked : (kind id : ℕ) → List Parameter → Answer (List Parameter)
checked kind id ps = check (leb (octets_needed kind id ps) 4096) 15 (octets_needed kind id ps) >> accepted ps

told : {A B : Type 0} (t : Bool) (n d : ℕ) (f : A → B) (x : A) → ◌≡◌ {A = Answer B} (check t n d >> accepted (f x)) ((check t n d >> accepted x) >>= λ y. accepted (f y))
told true n d f x = refl
told false n d f x = refl

through : (kind id : ℕ) (a : Answer (List Parameter)) → (sized a >>= measured_of kind id) ≡ ((a >>= checked kind id) >>= λ ps. accepted (sizes_of kind id ps))
unfolding sized measured_of octets_needed
through kind id (accepted ps) = told (leb (octets_needed kind id ps) 4096) 15 (octets_needed kind id ps) (sizes_of kind id) ps
through kind id (refused n d) = refl

module _ (kind : ℕ) (id : D.Id) (count : ℕ) (t : List ℕ) (source : Octets) where
  module _ (known : typed kind ≡ true) (fit : id_fits kind id.count ≡ true) (few : count ≤ 64) (room : width * count ≤ length t) where
    by_entries : (sized (entries_from 0 count t source) >>= measured_of kind id.count) ≡ measured kind id count t source
    unfolding measured entries_of
    by_entries = simp (known, fit, le-leb count 64, le-leb (width * count) (length t)) (through kind id.count (entries_from 0 count t source))

    pub no_entry : {n d : ℕ} → refused n d ≡ sized (entries_from 0 count t source) → refused n d ≡ measured kind id count t source
    no_entry e = rw (← e) at by_entries

    pub by_set : {set : ℕ} → accepted set ≡ sized (entries_from 0 count t source) → measured_of kind id.count set ≡ measured kind id count t source
    by_set e = rw (← e) at by_entries

-- back from what is accepted
module _ (kind : ℕ) (id : D.Id) (count : ℕ) (t : List ℕ) (source : Octets) where
  pub record Ready (ps : List Parameter) : Type 0 where
    pub allowed : Allowed kind id.count
    pub few : count ≤ 64
    pub room : width * count ≤ length t
    pub entries : entries_from 0 count t source ≡ accepted ps
    pub short : octets_needed kind id.count ps ≤ 4096

  pub ready : {ps : List Parameter} → entries_of kind id count t source ≡ accepted ps → Ready ps
  unfolding entries_of
  ready {ps} e =
      let (k, a) = passed (typed kind) 3 0 e in
      let (f, b) = passed (id_fits kind id.count) 6 0 a in
      let (m, c) = passed (leb count 64) 10 0 b in
      let (r, d) = passed (leb (width * count) (length t)) 1 0 c in
      let (qs, x, y) = taken (entries_from 0 count t source) d in
      let (l, z) = passed (leb (octets_needed kind id.count qs) 4096) 15 (octets_needed kind id.count qs) y in
      let same : qs ≡ ps = cc in
      rw (← same) (record { allowed = allowed kind id.count k f; few = leb-true _ _ m; room = leb-true _ _ r; entries = x; short = leb-true _ _ l })
