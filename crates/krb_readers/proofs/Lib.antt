pub mod Cited
pub mod Listed
pub mod Checked
pub mod Matched
pub mod Options
pub mod Latest
