pub mod Placed
pub mod Looked
pub mod Enrolled
pub mod Found
pub mod Given
pub mod Named
pub mod Numbered
