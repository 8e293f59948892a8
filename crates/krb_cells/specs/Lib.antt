-- The definitions that the contracts of this crate use.
pub mod Contents
pub mod Cells
pub mod Carry
