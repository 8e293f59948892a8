-- What the contracts of this crate say.
pub mod Aftermaths
pub mod Content
pub mod Disk
pub mod DiskFiles
pub mod Holding
pub mod InPlace
pub mod Looks
pub mod Mode
pub mod NewFile
pub mod Stages
