pub mod Appending
pub mod Journals
pub mod Sound
