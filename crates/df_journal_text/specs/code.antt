pub mod Asking
pub mod Judging
pub mod KnownLabel
pub mod Outcome
