pub mod PlainRun
pub mod Grown
