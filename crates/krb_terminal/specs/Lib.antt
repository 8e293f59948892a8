-- What a screen prints.
pub mod Screen
