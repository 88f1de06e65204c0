pub mod Commits
pub mod Visible
pub mod code
