-- `package::write` meets its contract.
use mathlib.Core.Path.{◌≡◌, refl, sym, ◌∙◌}
use mathlib.Core.Bool.{false}
use lib.ListN.{length, length-map}
use borrow.Author.Tests.{le-leb, lt-leb, eq-eqb, ne_eqb, eqb-true}
use native.Mathlib.Omega.{arith}
use Rattle.element.specs.Output.{written, output_after}
use Rattle.package.specs.Reading.{few}
use Rattle.package.specs.Writing.{package_writing}
use Rattle.package.proofs.Steps.{not_few}
use Rattle.package.proofs.writing.write.Goals as goal
use Rattle.package.proofs.writing.write.Goals.{then-not-is_package-via-then-not-is_package, then-not-is_package-via-else-not-is_package+then-ids-id_size, then-is_empty-via-then-is_empty, then-is_empty-via-else-is_empty+then-components-gt8}

pub returns-then-table-lt-TABLES : goal.returns-then-table-lt-TABLES
unfolding package_writing written output_after
returns-then-table-lt-TABLES c = simp (c.at.ensures, lt-leb _ _ c.if-table-lt-TABLES.true) (refl, refl)

pub returns-then-not-is_package : goal.returns-then-not-is_package
unfolding package_writing written output_after
returns-then-not-is_package c =
    elim c.then-not-is_package.branch [
      | then-not-is_package-via-then-not-is_package w ↦
          simp (c.at-then-not-is_package.ensures, le-leb _ _ c.if-table-lt-TABLES.false, sym c.is_package.ensures ∙ w.if-not-is_package.true) (refl, refl)
      | then-not-is_package-via-else-not-is_package+then-ids-id_size w ↦
          simp (c.at-then-not-is_package.ensures, le-leb _ _ c.if-table-lt-TABLES.false, sym c.is_package.ensures ∙ w.if-not-is_package.false, ne_eqb _ _ (λ e. w.if-ids-id_size.true (e ∙ sym w.id_size.ensures))) (refl, refl)
    ]

pub returns-then-is_empty : goal.returns-then-is_empty
unfolding package_writing written output_after
returns-then-is_empty c =
    let count = length c.args.components.now in
    let miscounted : few count ≡ false =
    elim c.then-is_empty.branch [
      | then-is_empty-via-then-is_empty w ↦
          let none = eqb-true count 0 (sym c.is_empty.ensures ∙ w.if-is_empty.true) in not_few (λ h. omega arith)
      | then-is_empty-via-else-is_empty+then-components-gt8 w ↦ not_few (λ h. omega arith)
    ] in
    simp (c.at-then-is_empty.ensures, le-leb _ _ c.if-table-lt-TABLES.false, sym c.is_package.ensures ∙ c.if-not-is_package.false, eq-eqb _ _ (c.if-ids-id_size.false ∙ c.id_size.ensures), length-map, miscounted) (refl, refl)
