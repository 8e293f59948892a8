-- What the contracts of this crate say.
pub mod Klist
pub mod Overview
pub mod Ktfind
pub mod KtmatchWords
pub mod Ktmatch
pub mod KtcheckWords
pub mod Ktcheck
pub mod Show

-- For private contracts only.
