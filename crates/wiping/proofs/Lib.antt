-- Lemmas of the walks, and the names that they cite.
mod Clearing
pub mod Steps
pub mod Walks
