pub mod Check
pub mod CheckNoted
