pub mod Fields
pub mod Lengths
pub mod OneReading
pub mod Reading
