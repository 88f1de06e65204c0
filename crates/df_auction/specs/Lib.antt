pub mod Auction
pub mod AuctionText
pub mod Matching
pub mod OrderFile
pub mod Ranking
pub mod Refusing
pub mod Stairs
pub mod code
