-- `component::measure` meets its contract.
use mathlib.Core.Path.{◌≡◌, sym, ◌∙◌}
use mathlib.Core.Bool.{true}
use Rattle.std.proofs.lemmas.Result.{err_from_is_err_and}
use Rattle.component.specs.Types.{id_fits}
use Rattle.component.proofs.Typing.{two_at_most, allowed}
use Rattle.component.proofs.Measuring.{no_entry, by_set}
use Rattle.component.proofs.composing.measure.Goals as goal

pub returns-in_err-set : goal.returns-in_err-set
returns-in_err-set c =
    let p = err_from_is_err_and c.from_residual-in_err-set.result c.from_residual-in_err-set.ensures.1 in
    let fit : id_fits c.args.kind c.args.id.count ≡ true = rw (c.in_ok-kind.ensures.0, c.from.ensures) at (sym c.fits.ensures.fits ∙ c.if-not-fits.false) in
    rw (p.1, p.2) (no_entry _ _ _ _ _ c.in_ok-kind.ensures.1 fit c.if-count-gt64.false c.if-table-count.false c.in_err-set.ensures.0)

pub whole_size-requires : goal.whole_size-requires
whole_size-requires c =
    let fit : id_fits c.args.kind c.args.id.count ≡ true = rw (c.in_ok-kind.ensures.0, c.from.ensures) at (sym c.fits.ensures.fits ∙ c.if-not-fits.false) in
    (two_at_most (allowed _ _ c.in_ok-kind.ensures.1 fit), c.in_ok-set.ensures.1)

pub returns : goal.returns
returns c =
    let fit : id_fits c.args.kind c.args.id.count ≡ true = rw (c.in_ok-kind.ensures.0, c.from.ensures) at (sym c.fits.ensures.fits ∙ c.if-not-fits.false) in
    rw (c.octet.ensures, c.in_ok-kind.ensures.0) at c.whole_size.ensures
    ∙ by_set _ _ _ _ _ c.in_ok-kind.ensures.1 fit c.if-count-gt64.false c.if-table-count.false c.in_ok-set.ensures.0
