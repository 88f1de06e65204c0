pub mod Names
pub mod Keepings
pub mod Moments
pub mod Openings
pub mod Takes
