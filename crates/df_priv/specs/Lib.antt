pub mod Held
pub mod Needed
