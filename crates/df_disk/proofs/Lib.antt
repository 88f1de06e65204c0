pub mod Appends
pub mod Begins
pub mod Crash
pub mod Heads
pub mod Kept
pub mod Memory
pub mod Moments
pub mod Taken
