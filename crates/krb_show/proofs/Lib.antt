pub mod Cited
pub mod OnLiterals
pub mod Tables
pub mod Distinct
pub mod EntryLines
