pub mod FloorRun
pub mod Load
pub mod code
