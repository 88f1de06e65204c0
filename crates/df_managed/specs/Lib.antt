pub mod Contaminations
pub mod code
