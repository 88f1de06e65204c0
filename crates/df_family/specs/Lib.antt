pub mod Family
pub mod May
pub mod Never
