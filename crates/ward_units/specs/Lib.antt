pub mod Doctor
pub mod Office
pub mod Role
pub mod Ward
pub mod Wishes
