pub mod Fields
pub mod RecordFile
pub mod Refusing
pub mod code
