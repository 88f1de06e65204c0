pub mod Settling
pub mod Counts
pub mod Trades
pub mod Running
