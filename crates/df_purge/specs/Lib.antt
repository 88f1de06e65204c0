pub mod Purged
pub mod code
