pub mod Runs
pub mod Eliminators
pub mod Work
