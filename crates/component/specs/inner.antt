pub mod Emitting
pub mod Within
