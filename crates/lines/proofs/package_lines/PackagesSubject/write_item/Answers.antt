-- `lines::package_lines::PackagesSubject::write_item` meets its contract.
use Rattle.lines.proofs.Handed.{handed}
use Rattle.lines.proofs.Putting.{named}
use Rattle.lines.proofs.package_lines.PackagesSubject.write_item.Goals as goal

pub write_package-requires : goal.write_package-requires
write_package-requires c =
    (handed _ (λ i. (c.type_inv.contents i).fits) _ _ c.eight_of.ensures c.read-reading.result c.read-reading.ensures).few

pub returns : goal.returns
returns c =
    let read = handed _ (λ i. (c.type_inv.contents i).fits) _ _ c.eight_of.ensures c.read-reading.result c.read-reading.ensures in
    let written = named _ _ (read.lines c.args.item) c.write_package.ensures in
    record { lines = written.0; out = written.1; table = read.left; short = rw (← read.lines c.args.item) (read.short _) }
