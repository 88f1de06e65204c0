pub mod Acting
pub mod Parts
pub mod Trades
