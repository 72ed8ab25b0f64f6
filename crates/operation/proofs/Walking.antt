-- The walk over the parameters: after each turn the whole is what is shown in the sheet and what is left.
use Prim.Native.Nat.{ℕ, zero, suc, ◌+◌, ◌*◌, ◌-◌, ◌<◌, ◌≤◌}
use mathlib.Core.Path.{◌≡◌, refl, sym, ◌∙◌}
use mathlib.Core.List.{List, [], ◌∷◌, ◌++◌, append_assoc, append-nil}
use lib.ListN.{length, length-append}
use lib.Seq.{sets}
use borrow.Author.Tests.{le-leb, lt-leb}
use native.Mathlib.Omega.{arith}
use Rattle.element.specs.Octets.{Octets}
use Rattle.element.specs.Answer.{Answer, accepted, refused, ◌>>=◌}
use Rattle.element.proofs.FieldLaws.{put_next, put_stores}
use Rattle.std.specs.Prelude.{Ok}
use Rattle.component.specs.Table.{Entry, next, width, numbers_of, numbers, table_with}
use Rattle.component.specs.Layout.{parameter_from, parameters}
use Rattle.component.proofs.Entries.{numbers_length}
use Rattle.component.proofs.Laying.{parameter_within}
use Rattle.operation.specs.inner.Sheet.{Walked}

numbers_more : (es : List Entry) (e : Entry) → numbers (es ++ (e ∷ [])) ≡ numbers es ++ numbers_of e
unfolding numbers
numbers_more [] e = refl
numbers_more (f ∷ es) e = rw (numbers_more es e)

behind_none : (a : Answer (List Entry)) → a ≡ (a >>= λ es. accepted ([] ++ es))
behind_none (accepted es) = refl
behind_none (refused n d) = refl

behind_one : (shown : List Entry) (e : Entry) (a : Answer (List Entry)) →
    ◌≡◌ {A = Answer (List Entry)} ((a >>= λ es. accepted (e ∷ es)) >>= λ es. accepted (shown ++ es)) (a >>= λ es. accepted ((shown ++ (e ∷ [])) ++ es))
behind_one shown e (accepted es) = rw append_assoc
behind_one shown e (refused n d) = refl

-- after `count` parameters, from a sheet `z`
pub record Done (s : Octets) (from : ℕ) (z : List ℕ) (count at : ℕ) (sheet : List ℕ) : Type 0 where
  pub entries : List Entry
  pub many : length entries ≡ count
  pub holds : sheet ≡ table_with entries z
  pub whole : parameters 64 s from (length s) ≡ (parameters (64 - count) s at (length s) >>= λ es. accepted (entries ++ es))

module _ (s : Octets) (from : ℕ) (z : List ℕ) where
  pub begins : Done s from z 0 from z
  unfolding table_with numbers
  begins = record { entries = []; many = refl; holds = refl; whole = behind_none (parameters 64 s from (length s)) }

  module _ {count at : ℕ} {sheet : List ℕ} (w : Done s from z count at sheet) where
    none_left : length s ≤ at → (room : ℕ) → parameters room s at (length s) ≡ accepted []
    unfolding parameters
    none_left h zero = simp (le-leb (length s) at)
    none_left h (suc room) = simp (le-leb (length s) at)

    pub ends : length s ≤ at → Walked (parameters 64 s from (length s)) (Ok count) z sheet
    ends h = (w.entries, w.whole ∙ simp (none_left h (64 - count), append-nil), sym w.many, w.holds)

    module _ (h : at < length s) where
      pub full : count ≡ 64 → parameters 64 s from (length s) ≡ refused 10 at
      unfolding parameters
      full e = w.whole ∙ rw e (simp (lt-leb (length s) at))

      module _ (few : count < 64) (short : length s ≤ 4096) where
        room : 64 - count ≡ suc (64 - (count + 1))
        room = omega arith

        pub stops : {n d : ℕ} → parameter_from s at ≡ refused n d → parameters 64 s from (length s) ≡ refused n d
        unfolding parameters
        stops q = w.whole ∙ rw room (simp (lt-leb (length s) at, ← parameter_within s at short h, q))

        pub goes_on : {e : Entry} → parameter_from s at ≡ accepted e → width * count + width ≤ length sheet → {after : List ℕ} →
            after ≡ sets sheet (width * count) (numbers_of e) → Done s from z (count + 1) (next e) after
        unfolding parameters table_with
        goes_on {e} q fit f =
            let n : width * count ≡ length (numbers w.entries) = omega (arith, numbers_length w.entries, w.many) in
            record {
              entries = w.entries ++ (e ∷ []);
              many = length-append w.entries (e ∷ []) ∙ omega (arith, w.many);
              holds = f ∙ put_stores (numbers_of e) (width * count) sheet fit ∙ rw (n, w.holds, numbers_more) (put_next (numbers w.entries) (numbers_of e) z);
              whole = w.whole ∙ rw room (simp (lt-leb (length s) at, ← parameter_within s at short h, q) (behind_one w.entries e (parameters (64 - (count + 1)) s (next e) (length s))));
            }
