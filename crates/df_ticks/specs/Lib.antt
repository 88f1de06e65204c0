pub mod TickFile
pub mod Refusing
pub mod TickText
