pub mod Opened
pub mod Leftover
pub mod Weighed
pub mod Ordered
