pub mod Contents
pub mod Part
pub mod code
