pub mod Chunks
pub mod Roll
