pub mod Calling
pub mod Noting
pub mod Passing
pub mod Picking
