pub mod Answer
pub mod Brackets
pub mod WordEnd
pub mod Short
