pub mod Starting
pub mod Brains
