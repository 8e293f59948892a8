-- The definitions that the contracts of this crate use.
pub mod Hash
pub mod Numbers
pub mod Set
pub mod Marks
pub mod Patterns
pub mod Asked
pub mod Laws
pub mod Twins
