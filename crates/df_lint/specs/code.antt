pub mod Cells
pub mod First
pub mod Linted
pub mod Passing
pub mod Rows
pub mod Spread
