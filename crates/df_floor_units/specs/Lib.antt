pub mod Broking
pub mod Trading
pub mod Telling
pub mod Hearing
pub mod Opening
pub mod Floor
pub mod Units
pub mod code
