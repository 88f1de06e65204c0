pub mod Change
pub mod Entries
pub mod Limits
pub mod Name
pub mod Place
pub mod Plain
pub mod Value
pub mod code
