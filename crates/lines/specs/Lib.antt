pub mod Header
pub mod Decimal
pub mod Line
pub mod Listing
pub mod Sample
pub mod Packages
pub mod PackageSample
pub mod inner
