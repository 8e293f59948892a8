pub mod Cited
mod AsBox
pub mod StoreLemmas
pub mod CacheCells
pub mod NameLemmas
pub mod Openers
pub mod Deeper
pub mod ItemLemmas
pub mod ListLemmas
mod Sent
