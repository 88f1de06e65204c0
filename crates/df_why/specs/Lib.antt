pub mod Grounds
pub mod Meeting
pub mod code
