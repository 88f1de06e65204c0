pub mod Brain
