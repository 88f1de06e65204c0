pub mod Runs
pub mod Goings
