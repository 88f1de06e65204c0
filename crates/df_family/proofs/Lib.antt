pub mod Names
pub mod Bound
pub mod BoundRows
pub mod BoundJournal
