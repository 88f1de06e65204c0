pub mod Listing
pub mod Due
pub mod Filter
pub mod IndexState
pub mod FirstName
pub mod Marks
pub mod Occasion
