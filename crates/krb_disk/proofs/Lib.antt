pub mod Alone
pub mod Moments
pub mod Parts
pub mod Pieces
pub mod PlaceMoments
pub mod Within
