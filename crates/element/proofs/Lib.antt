pub mod Reading
pub mod Ways
pub mod LengthLaws
pub mod IdentifierLaws
pub mod FieldLaws
pub mod Outcomes
