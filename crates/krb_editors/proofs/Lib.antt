pub mod Cited
pub mod SessionReplies
pub mod RunJoins
pub mod Copies
pub mod AddedPlaces
mod Looking
pub mod ForAnswers
mod SpelledParts
