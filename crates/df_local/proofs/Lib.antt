pub mod Names
pub mod ReadInTurn
pub mod Begun
