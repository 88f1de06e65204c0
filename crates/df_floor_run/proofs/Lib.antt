pub mod Names
mod Keeping
mod Opening
mod Roll
mod Passing
mod Opens
mod LoadForm
mod Told
mod Whole
mod Worked
mod Works
mod Crossing
