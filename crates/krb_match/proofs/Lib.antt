pub mod Cited
pub mod Noting
pub mod Numbering
pub mod Places
pub mod Finding
pub mod Judging
pub mod LawLemmas
pub mod Adding
pub mod ForAnswers
pub mod OnLiterals
mod Samples
