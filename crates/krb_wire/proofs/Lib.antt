pub mod Cited
pub mod Fields
pub mod Lists
pub mod ReadLists
pub mod Places
pub mod PenLemmas
pub mod NamesCompared
pub mod Principals
pub mod QuoteLemmas
pub mod TextLemmas
pub mod AtomLemmas
pub mod PlainRuns
pub mod RoundTrip
pub mod OnLiterals
mod Samples
