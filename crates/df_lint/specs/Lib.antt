pub mod LintText
pub mod Tags
pub mod code
