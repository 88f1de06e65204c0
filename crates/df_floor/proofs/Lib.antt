pub mod Few
pub mod Next
pub mod Paired
