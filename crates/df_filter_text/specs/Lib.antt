pub mod FieldTest
pub mod Filter
pub mod Fits
pub mod ReadFieldTest
pub mod ReadFilter
pub mod code
