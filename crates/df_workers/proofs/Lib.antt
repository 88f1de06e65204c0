pub mod Names
pub mod Prefixed
mod Others
mod Turned
mod Stepped
mod Serving
pub mod Gathered
pub mod Crossing
