pub mod Called
pub mod Common
pub mod ReadScript
pub mod Reader
pub mod Script
pub mod TooLarge
pub mod code
