pub mod Fields
pub mod Messages
pub mod Drafts
pub mod code
