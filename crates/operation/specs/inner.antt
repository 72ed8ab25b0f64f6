pub mod Coded
pub mod Run
pub mod Firsts
pub mod Sheet
pub mod Finishing
