pub mod Below
pub mod Cursor
pub mod Either
pub mod Journal
pub mod TooLarge
pub mod code
