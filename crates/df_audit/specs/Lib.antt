pub mod Audit
pub mod Made
pub mod Sound
pub mod code
