pub mod Cited
pub mod Lines
pub mod Scripts
pub mod Additions
pub mod Items
pub mod Appending
pub mod Made
pub mod OnLiterals
