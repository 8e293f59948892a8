-- What the contracts of this crate say.
pub mod Sessions
pub mod Ktedit
pub mod Selecting
pub mod MissingFiles
pub mod Removing
pub mod Ktremove
pub mod Ktcopy
pub mod Ktdiff
pub mod Ccedit
pub mod Ccremove
pub mod HoldEnds
pub mod Hold
