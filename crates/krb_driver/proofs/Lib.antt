pub mod Cited
pub mod Shown
pub mod Making
pub mod Running
pub mod Words
pub mod Spelled
mod Rounds
pub mod ForAnswers
