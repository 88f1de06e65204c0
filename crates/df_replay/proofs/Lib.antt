pub mod Comparing
pub mod Replayed
pub mod Right
pub mod Notes
