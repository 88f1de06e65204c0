pub mod View
pub mod Rule
pub mod Plays
pub mod Laws
pub mod Pass
