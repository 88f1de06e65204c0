pub mod Summing
pub mod SummaryText
pub mod code
