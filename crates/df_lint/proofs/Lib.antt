pub mod Names
pub mod Cells
pub mod CellRows
pub mod Attaching
pub mod Steps
pub mod Growing
pub mod Least
pub mod Lines
