pub mod Cited
pub mod Given
pub mod Runs
pub mod Unfolded
mod Stores
mod NamesAndTimes
mod Ends
