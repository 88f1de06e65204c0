pub mod Faults
pub mod Files
pub mod Limits
pub mod MemoryShelf
pub mod MemorySink
pub mod Pieces
