pub mod Names
pub mod OpenHandles
pub mod Slots
pub mod Views
