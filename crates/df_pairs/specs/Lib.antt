pub mod Divergence
pub mod AllSpreads
pub mod Spreads
