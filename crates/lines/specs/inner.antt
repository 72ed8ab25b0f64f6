pub mod Parcels
pub mod Rows
