pub mod Names
pub mod Joining
pub mod Seating
pub mod Spots
