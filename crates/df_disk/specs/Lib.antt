pub mod Disk
pub mod Found
pub mod MemoryDisk
pub mod Records
