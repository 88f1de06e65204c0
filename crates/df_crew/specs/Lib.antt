pub mod Locally
pub mod Booking
pub mod Growing
pub mod Resting
pub mod Seen
pub mod Since
