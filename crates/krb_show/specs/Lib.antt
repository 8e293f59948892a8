-- The definitions that the contracts of this crate use.
pub mod Ago
pub mod Columns
pub mod EtypeNames
pub mod Heading
pub mod CacheView
pub mod KeytabView
-- For private contracts alone.
pub mod Named
pub mod Lines
pub mod Seen
