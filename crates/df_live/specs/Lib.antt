pub mod Lines
pub mod Live
pub mod Part
pub mod ReadLines
pub mod Status
pub mod code
