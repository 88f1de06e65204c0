pub mod RunState
pub mod Runs
pub mod code
