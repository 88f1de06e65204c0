pub mod Minds
pub mod CrewState
pub mod Turns
pub mod Manned
pub mod Booked
pub mod code
