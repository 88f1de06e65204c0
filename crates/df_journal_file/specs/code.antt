pub mod Entries
pub mod Files
pub mod Languages
pub mod Marks
pub mod Places
pub mod Stops
