-- What the contracts of this crate say.
pub mod Members
pub mod Escaped
pub mod Keytab
pub mod Cache
pub mod Summary
pub mod Check
pub mod Matches
pub mod Pieces
