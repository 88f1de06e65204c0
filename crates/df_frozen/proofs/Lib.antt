pub mod Options
pub mod Named
pub mod Steps
pub mod Counts
pub mod Search
pub mod Places
pub mod Contents
pub mod Nodes
pub mod Copies
mod Heads
mod HeadOrder
