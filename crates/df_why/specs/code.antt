pub mod Arising
pub mod Leads
pub mod Links
pub mod Names
pub mod Numbers
pub mod Queues
pub mod Tracks
pub mod Walk
