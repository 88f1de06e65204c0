pub mod Floor
pub mod Lint
pub mod Making
pub mod Outcome
pub mod Status
pub mod Steps
pub mod Tasks
