-- What the contracts of this crate say.
pub mod Nearest
pub mod Words
