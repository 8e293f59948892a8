-- The definitions that the contracts of this crate use.
pub mod Listing
pub mod Reply
pub mod Script
