pub mod Table6
pub mod Naming
