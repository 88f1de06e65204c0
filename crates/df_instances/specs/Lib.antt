pub mod Chosen
pub mod Marks
pub mod Named
pub mod code
