pub mod Prefixes
mod Views
mod Steps
mod Moments
mod Passes
