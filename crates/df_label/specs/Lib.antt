pub mod Ascending
pub mod Label
pub mod Privilege
pub mod Privileges
pub mod Spelling
pub mod Tag
pub mod TagSet
pub mod code
