pub mod Locally
pub mod Births
pub mod Brief
pub mod Named
pub mod code
