-- What a cleared block is.
pub mod Wiping
pub mod Zeros
