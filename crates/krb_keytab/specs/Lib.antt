-- The definitions that the contracts of this crate use.
pub mod Entry
pub mod Cells
pub mod Store
pub mod Find
pub mod Entries
pub mod Form
pub mod Changes
pub mod Rewrite
pub mod Open
pub mod Laws
pub mod Tree
pub mod Slot
pub mod Index
-- For private contracts alone.
pub mod Image
pub mod CellViews
pub mod LookUp
pub mod Nodes
