mod Crossing
mod Ran
