pub mod Common
pub mod Languages
pub mod Lines
pub mod Stops
