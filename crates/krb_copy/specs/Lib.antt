pub mod Copying
pub mod Diff
pub mod Laws
-- For private contracts alone.
pub mod Texts
pub mod Classes
pub mod DiffRows
pub mod Made
