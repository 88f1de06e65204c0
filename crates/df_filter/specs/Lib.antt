pub mod Asked
pub mod FieldTest
pub mod Clause
pub mod Filter
pub mod Limits
