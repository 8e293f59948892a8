-- What the contracts of the program say.
pub mod DefaultNames
pub mod Silence
