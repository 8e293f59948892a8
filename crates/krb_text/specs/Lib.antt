-- What the contracts of this crate say.
pub mod Gathered
pub mod Escape
pub mod Numbers
pub mod Etype
pub mod LineFault
pub mod FaultLine
pub mod Word
pub mod Calendar
pub mod Flags
