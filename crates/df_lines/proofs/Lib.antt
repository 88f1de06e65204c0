pub mod FirstBad
pub mod Rows
pub mod Splits
