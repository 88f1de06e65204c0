pub mod Deliveries
pub mod Rows
pub mod Walks
