pub mod Names
pub mod SoFar
pub mod ByNotes
