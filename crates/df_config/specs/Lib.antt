pub mod ConfigForm
pub mod ConfigTable
pub mod ConfigFile
