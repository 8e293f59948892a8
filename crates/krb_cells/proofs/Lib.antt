pub mod Cited
pub mod ContentsLemmas
pub mod Cuts
pub mod Formats
pub mod Given
pub mod NewPlaces
pub mod OnLiterals
