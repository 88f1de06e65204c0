pub mod Begun
pub mod Runs
pub mod Stored
pub mod Verdicts
