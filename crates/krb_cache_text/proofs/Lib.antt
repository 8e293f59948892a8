pub mod Cited
pub mod OnLiterals
