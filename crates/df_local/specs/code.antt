pub mod Edits
pub mod LocalState
pub mod Shown
