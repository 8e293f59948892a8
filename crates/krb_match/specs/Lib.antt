-- The definitions that the contracts of this crate use.
pub mod Match
pub mod Said
pub mod Laws
pub mod Names
pub mod Tickets
-- For private contracts alone.
pub mod Table
pub mod Near
pub mod Looking
