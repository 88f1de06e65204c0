pub mod Places
pub mod Earliest
pub mod Nodes
pub mod Trees
