-- What the contracts of this crate say.
pub mod Listing
pub mod Reply
pub mod Script
