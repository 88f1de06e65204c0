pub mod Keeping
pub mod Opening
pub mod StoredState
pub mod Storing
