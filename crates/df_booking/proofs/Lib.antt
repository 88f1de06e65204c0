pub mod Entries
pub mod Brained
pub mod Acting
pub mod LocalRuns
pub mod Manning
