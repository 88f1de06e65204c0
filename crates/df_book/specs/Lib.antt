pub mod Submitting
pub mod code
