pub mod FirstBad
pub mod Kinds
pub mod Lines
pub mod Refused
pub mod code
