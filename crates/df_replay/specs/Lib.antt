pub mod Noted
pub mod Replay
