pub mod Front
pub mod Image
pub mod Reading
