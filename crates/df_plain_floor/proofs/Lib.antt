pub mod Names
pub mod More
pub mod Resting
pub mod Turning
pub mod Taking
pub mod Passing
pub mod Opening
pub mod Ending
