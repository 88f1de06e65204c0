pub mod Slot
pub mod Views
