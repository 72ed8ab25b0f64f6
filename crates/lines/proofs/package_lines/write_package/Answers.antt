-- `lines::package_lines::write_package` meets its contract.
use Rattle.lines.specs.Packages.{package_lines}
use Rattle.lines.specs.inner.Parcels.{parcel_in}
use Rattle.lines.proofs.Parcels.{counted}
use Rattle.lines.proofs.Putting.{named}
use Rattle.lines.proofs.package_lines.write_package.Goals as goal

pub write_accepted-requires : goal.write_accepted-requires
write_accepted-requires c =
    rw c.in-Ok.is at c.requires

pub returns-in-Ok : goal.returns-in-Ok
unfolding package_lines parcel_in
returns-in-Ok c =
    rw (c.in-Ok.is, counted) c.write_accepted.ensures

pub returns-in-Err : goal.returns-in-Err
unfolding package_lines parcel_in
returns-in-Err c = rw c.in-Err.is (named _ _ c.refused.ensures c.write.ensures)
