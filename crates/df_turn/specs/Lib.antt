pub mod Locally
pub mod code
