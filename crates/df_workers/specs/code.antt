pub mod Came
pub mod Gathered
