-- What `read_from` cites: the engine's answer over a sheet that the walk filled, as the reading that it comes to.
use Prim.Native.Nat.{ℕ, ◌≤◌, ◌<◌}
use mathlib.Core.Path.{◌≡◌, refl, ◌∙◌}
use mathlib.Core.List.{List}
use lib.ListN.{length}
use borrow.Author.Tests.{le-leb, lt-leb}
use native.Mathlib.Omega.{arith}
use Rattle.element.specs.Octets.{Octets, AreOctets}
use Rattle.element.specs.Answer.{Answer, accepted, refused}
use Rattle.component.specs.Layout.{Head, head_at, parameters, Layout, layout_at}
use Rattle.component.specs.Table.{table_size, table_with}
use Rattle.component.proofs.Laying.{ordered, laid, not_laid, no_head}
use Rattle.std.specs.Prelude.{Result, Ok}
use Rattle.operation.specs.declared.engine.RowFault as F
use Rattle.operation.specs.inner.Coded.{items_from, verdict, judged_in}
use Rattle.operation.specs.Caller.{Told}
use Rattle.operation.specs.Reading.{Shown, operation_in, reading_at, table_after}
use Rattle.operation.specs.Told.{told}
use Rattle.operation.specs.inner.Sheet.{Walked}
use Rattle.operation.specs.inner.Finishing.{Pointing, finished, table_finished}
use Rattle.operation.proofs.Readings.{laid_reads}
use Rattle.operation.proofs.Reached.{answers, tables}
use Rattle.operation.proofs.Places.{pointing}

abbrev Outcome : (a : Answer Shown) (t : List ℕ) (said : Answer Told) (after : List ℕ) → Type 0
Outcome a t said after = (said ≡ told a) × (after ≡ table_after t a)

unchanged : {a : Answer Shown} (t : List ℕ) {n d : ℕ} → a ≡ refused n d → Outcome a t (refused n d) t
unfolding told table_after
unchanged t e = rw e (refl, refl)

module _ (s : Octets) (from given : ℕ) (t : List ℕ) where
  abbrev answer : Answer Shown
  answer = reading_at s from given (length t)

  pub too_short : length t < table_size → Outcome answer t (refused 1 0) t
  unfolding reading_at
  too_short h = unchanged t (simp (lt-leb table_size (length t) h))

  module _ (o : AreOctets s) (long : table_size ≤ length t) where
    not_laid_out : {n d : ℕ} → layout_at s from ≡ refused n d → Outcome answer t (refused n d) t
    unfolding reading_at
    not_laid_out e = unchanged t (simp (le-leb table_size (length t), e))

    pub headless : {n d : ℕ} → refused n d ≡ head_at s from → Outcome answer t (refused n d) t
    headless e = not_laid_out (no_head s o from e)

    module _ {g : Head} (e : accepted g ≡ head_at s from) where
      pub stopped : {n d : ℕ} → parameters 64 s g.set (length s) ≡ refused n d → Outcome answer t (refused n d) t
      stopped p = not_laid_out (not_laid s o from e p)

      module _ (z : List ℕ) {count : ℕ} {sheet : List ℕ} (walk : Walked (parameters 64 s g.set (length s)) (Ok count) z sheet) where
        -- the layout that the sheet holds
        held : (l : Layout) × (layout_at s from ≡ accepted l) × (l.head ≡ g) × (count ≡ length l.entries) × (sheet ≡ table_with l.entries z)
        held = let (es, p, n, q) = walk in (record { head = g; entries = es }, laid s o from e es p, refl, n, q)

        pub few : count ≤ 64
        few = let (l, f, _, n, _) = held in omega (arith, (ordered s o from f).few)

        module _ (j : Result ℕ F.RowFault) (q : judged_in j ≡ verdict g.kind (operation_in s g given) (items_from sheet 0 count)) where
          same : (l : Layout) → layout_at s from ≡ accepted l → l.head ≡ g → count ≡ length l.entries → sheet ≡ table_with l.entries z →
              Pointing count j × Outcome answer t (finished s g given count sheet (judged_in j)) (table_finished count sheet t (judged_in j))
          same l f a b c =
              let v : judged_in j ≡ verdict l.head.kind (operation_in s l.head given) (items_from (table_with l.entries z) 0 (length l.entries)) = q ∙ rw (a, c, b) in
              let r = laid_reads s from given (length t) long f in (
                rw b (pointing l.head.kind (operation_in s l.head given) (length l.entries) (table_with l.entries z) (omega arith) j v),
                (rw (r, v, ← a, b, c) (answers s given z l), rw (r, v, b, c) (tables s given z l t)),
              )

          pub reached : Pointing count j × Outcome answer t (finished s g given count sheet (judged_in j)) (table_finished count sheet t (judged_in j))
          reached = let (l, f, a, b, c) = held in same l f a b c
