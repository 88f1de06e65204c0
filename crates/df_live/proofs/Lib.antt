pub mod Names
pub mod Answered
pub mod Heads
pub mod Parts
pub mod Starts
pub mod Taking
