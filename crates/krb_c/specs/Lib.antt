-- The definitions that the contracts of this crate use.
pub mod Status
pub mod Held
pub mod Handle
pub mod Opens
pub mod Text
pub mod Walks
pub mod CacheLooks
pub mod Own
pub mod Lists
pub mod CacheStore
pub mod CacheOpens
pub mod KeytabLooks
pub mod Findings
pub mod Opener
pub mod KeytabOpens
pub mod Phrase
