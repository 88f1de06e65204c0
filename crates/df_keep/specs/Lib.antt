pub mod Kept
pub mod Outcome
pub mod Reading
pub mod Script
pub mod Status
pub mod Storing
