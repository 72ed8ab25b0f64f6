-- `roadquill::roadquill_read_package` meets its contract.
use mathlib.Core.Path.{ap, subst, sym, ◌∙◌}
use lib.ListN.{length}
use Rattle.package.specs.Packed.{packed_package, PackageFits}
use Rattle.package.proofs.Packing.{fits_into}
use Rattle.roadquill.proofs.roadquill_read_package.Goals as goal

pub packed_package-requires : goal.packed_package-requires
packed_package-requires c =
    let a = c.args in
    subst PackageFits (sym c.read_into.ensures.0) (fits_into a.octets.now a.specifiers a.table.now 8 (length a.components.now) (λ i. (c.shared_slice_known-1.given i).fits))

pub returns : goal.returns
returns c = let r = c.read_into.ensures in (c.packed_package.ensures ∙ ap packed_package r.0, r.1, r.3)
