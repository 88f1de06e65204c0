pub mod Code
pub mod Copying
pub mod Counting
pub mod Inner
pub mod LetGo
pub mod NameBytes
pub mod Nesting
pub mod Search
