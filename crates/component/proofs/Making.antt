-- What a writer is handed, as a component: what makes a given one again, and the one that is made.
use Prim.Native.Nat.{ℕ, ◌*◌, ◌≤◌}
use mathlib.Core.Path.{◌≡◌, refl, sym}
use mathlib.Core.List.{List, [], ◌∷◌}
use lib.ListN.{length, get_or, take}
use borrow.Author.Tests.{le-leb}
use native.Mathlib.Omega.{arith}
use Rattle.element.specs.Octets.{Octets}
use Rattle.element.specs.Answer.{accepted}
use Rattle.component.specs.declared.Id as D
use Rattle.component.specs.declared.Code as E
use Rattle.component.specs.Types.{uncoded, coding_of}
use Rattle.component.specs.Table.{Entry, width, id_of, table_with, id_octets, code_of, written_code, component_of}
use Rattle.component.specs.Grammar.{Parameter, Component}
use Rattle.component.specs.Standing.{Shows, Pairwise}
use Rattle.component.specs.Composed.{composed}
use Rattle.component.proofs.Composable.{Composable}
use Rattle.component.specs.Composing.{entries_from, entries_of, octets_of}
use Rattle.component.specs.Needed.{octets_needed}
use Rattle.component.proofs.Typing.{two_octets, two_at_most, known, fits}
use Rattle.component.proofs.Composition.{id_length, code_length, whole}
use Rattle.component.proofs.Measuring.{ready}
use Rattle.component.proofs.Sizes.{sized}
use Rattle.component.proofs.Entries.{holds, roomy, shown_taken, entries_stand, as_many}

-- ---- a component again
few_again : (s : Octets) → length s ≤ 2 → take (length s) (get_or s 0 0 ∷ get_or s 1 0 ∷ []) ≡ s
few_again [] h = refl
few_again (a ∷ []) h = refl
few_again (a ∷ b ∷ []) h = refl
few_again (a ∷ b ∷ c ∷ s) h = absurd (omega arith)

module _ (c : Component) (h : Composable c) where
  pub code_again : written_code c.kind (code_of c.code) ≡ c.code
  unfolding written_code code_of
  code_again = rw (← h.code) (few_again c.code (omega (arith, h.code, two_octets c.kind)))

  -- a type that has no code takes any
  pub no_code : coding_of c.kind ≡ uncoded → (code : E.Code) → written_code c.kind code ≡ c.code
  unfolding written_code
  no_code e code = let l = rw e at h.code in rw e (rw l at (few_again c.code (omega arith)))

  id_again : id_octets (id_of c.id) ≡ c.id
  unfolding id_octets id_of
  id_again = few_again c.id (two_at_most h.allowed)

  needed : octets_needed c.kind (length c.id) c.parameters ≡ length (composed c)
  needed = sym (sized c h.code (omega arith))

  pub entries-again : length c.parameters ≤ 64 → {s : Octets} {es : List Entry} → Pairwise (Shows s) es c.parameters → (t : List ℕ) →
      entries_of c.kind (id_of c.id) (length es) (table_with es t) s ≡ accepted c.parameters
  unfolding entries_of id_of
  entries-again few {s} {es} shows t =
      rw (
        known h.allowed.0,
        fits h.allowed,
        le-leb (length es) 64 (omega (arith, as_many shows)),
        le-leb (width * length es) (length (table_with es t)) (roomy es t),
        holds es t,
        shown_taken s shows h.identified 0,
        needed,
        le-leb (length (composed c)) 4096 h.size,
      )

  -- by whatever is handed in as its code
  pub octets-again : (code : E.Code) → written_code c.kind code ≡ c.code → (room : ℕ) → length (composed c) ≤ room →
      octets_of c.kind (id_of c.id) code c.parameters room ≡ accepted (composed c)
  unfolding octets_of id_of component_of
  octets-again code e room k = rw (needed, le-leb (length (composed c)) room k, e, id_again)

-- ---- the component made
pub makes : (kind : ℕ) (id : D.Id) (code : E.Code) (ps : List Parameter) (count : ℕ) (t : List ℕ) (source : Octets) → entries_of kind id count t source ≡ accepted ps →
    Composable (component_of kind id code ps) × (entries_from 0 count t source ≡ accepted ps) × (length ps ≤ 64)
unfolding component_of
makes kind id code ps count t source e =
    let r = ready kind id count t source e in
    let (i, v) = entries_stand t source 0 count r.entries in (
      record {
        allowed = rw (id_length id (two_at_most r.allowed)) r.allowed;
        code = code_length kind code;
        identified = i;
        size = rw (whole kind id code ps r.allowed r.short) r.short;
      },
      r.entries,
      omega (arith, r.few),
    )
