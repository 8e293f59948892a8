-- The definitions that the contracts of this crate use.
pub mod Credential
pub mod Header
pub mod Store
pub mod Config
pub mod Open
pub mod Changes
pub mod SetConfig
pub mod Laws
pub mod Der
pub mod Ticket
-- For private contracts only.
pub mod Credentials
pub mod Rewrite
