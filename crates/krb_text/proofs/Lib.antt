pub mod Cited
pub mod Passing
pub mod Cuts
pub mod Aligned
pub mod Found
pub mod Etypes
pub mod Letters
pub mod Numerals
pub mod Digits
pub mod NameFaults
pub mod Numbering
pub mod OnLiterals
mod Samples
