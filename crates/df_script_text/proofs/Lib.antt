mod Names
pub mod Called
pub mod Calls
pub mod Files
pub mod Heads
pub mod Numbered
pub mod RootLines
pub mod ScriptBacks
pub mod ScriptLines
pub mod Splits
pub mod Stops
pub mod Values
pub mod Words
pub mod Commons
