pub mod SpreadFacts
pub mod Windows
