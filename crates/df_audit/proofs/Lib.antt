pub mod Names
pub mod Calls
pub mod Exact
pub mod Grounds
pub mod Passes
pub mod Reports
pub mod Sound
pub mod Told
