pub mod Names
pub mod Fronts
pub mod Images
pub mod Readings
pub mod SameRecords
