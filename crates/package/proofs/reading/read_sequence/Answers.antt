-- `package::read_sequence` meets its contract.
use Prim.Native.Nat.{◌-◌}
use mathlib.Core.Path.{◌≡◌, refl, sym, ap, ◌∙◌}
use mathlib.Core.Bool.{false}
use lib.ListN.{get_or, length-map}
use native.Mathlib.Omega.{arith}
use Rattle.std.specs.Prelude.{None}
use Rattle.std.proofs.lemmas.Result.{err_from_is_err_and}
use Rattle.element.specs.Answer.{accepted}
use Rattle.package.specs.Reading.{few, tables_after}
use Rattle.package.specs.Told.{inside, told, outlined, places_after, summaries_after}
use Rattle.package.specs.inner.Opened.{found}
use Rattle.package.specs.inner.Leftover.{leftover, tables_rest, places_rest, summaries_rest}
use Rattle.package.proofs.Left.{all_done, not_done}
use Rattle.package.proofs.Steps.{is_few, not_few}
use Rattle.package.proofs.Sequenced.{faulty, stands, miscounted, read_whole, all_read}
use Rattle.package.proofs.reading.read_sequence.Goals as goal
use Rattle.package.proofs.reading.read_sequence.Goals.{then-count-eq0-via-then-count-eq0, then-count-eq0-via-else-count-eq0+then-count-gt8}

pub returns-in_err-count : goal.returns-in_err-count
unfolding tables_after told outlined places_after summaries_after
returns-in_err-count c =
    let p = err_from_is_err_and c.from_residual.result c.from_residual.ensures.1 in
    rw (p.1, p.2, faulty c.args.octets.now c.args.specifiers (found c.args.opening) (sym c.in_err-count.ensures)) (refl, refl, refl, refl)

pub returns-then-count-eq0 : goal.returns-then-count-eq0
unfolding tables_after told outlined places_after summaries_after
returns-then-count-eq0 c =
    let n = c.in_ok-count.count in
    let many : few n ≡ false =
    elim c.then-count-eq0.branch [
      | then-count-eq0-via-then-count-eq0 w ↦ not_few (λ h. omega arith)
      | then-count-eq0-via-else-count-eq0+then-count-gt8 w ↦ not_few (λ h. omega arith)
    ] in
    rw (c.at.ensures, miscounted c.args.octets.now c.args.specifiers (found c.args.opening) (sym c.in_ok-count.ensures) many) (refl, refl, refl, refl)

pub read_rest-requires : goal.read_rest-requires
read_rest-requires c = (
  stands c.args.octets.now c.args.specifiers (found c.args.opening) (sym c.in_ok-count.ensures) c.requires.0,
  c.requires.2,
  omega (arith, c.requires.5),
  omega (arith, c.requires.6),
  omega (arith, c.requires.7),
)

pub returns-in_err-read_rest : goal.returns-in_err-read_rest
unfolding tables_after told outlined places_after summaries_after tables_rest places_rest summaries_rest
returns-in_err-read_rest c =
    let a = c.args in
    let p = err_from_is_err_and c.from_residual-in_err-read_rest.result c.from_residual-in_err-read_rest.ensures.1 in
    let r = c.in_err-read_rest.ensures in
    let e = not_done (leftover (get_or a.octets.now 0 0) a.octets.now a.opening.first c.in_ok-count.count a.specifiers None) (sym r.0) in
    rw (p.1, p.2, read_whole a.octets.now a.specifiers (found a.opening) (sym c.in_ok-count.ensures) (is_few (omega arith)), e)
    (refl, r.1 ∙ ap (tables_rest _) e, r.2 ∙ ap (places_rest _) e, r.3 ∙ ap (summaries_rest _) e)

pub returns : goal.returns
unfolding tables_after told outlined places_after summaries_after tables_rest places_rest summaries_rest
returns c =
    let a = c.args in
    let r = c.in_ok-read_rest.ensures in
    let n = sym c.in_ok-count.ensures in
    let (ys, e) = all_done (leftover (get_or a.octets.now 0 0) a.octets.now a.opening.first c.in_ok-count.count a.specifiers None) (sym r.0) in
    let count = all_read a.octets.now a.specifiers (found a.opening) n e in
    rw (read_whole a.octets.now a.specifiers (found a.opening) n (is_few (omega arith)), e) (
      ap (λ n. accepted (record { kind = get_or a.octets.now 0 0; ids = a.opening.ids.start; size = a.opening.ids.end - a.opening.ids.start; count = n })) (sym (length-map ys inside ∙ count)),
      r.1 ∙ ap (tables_rest _) e,
      r.2 ∙ ap (places_rest _) e,
      r.3 ∙ ap (summaries_rest _) e,
    )
