-- What the contracts of this crate say.
pub mod Bytes
pub mod Files
pub mod Loading
pub mod Log
pub mod MemFiles
pub mod Phrases
pub mod Plan
