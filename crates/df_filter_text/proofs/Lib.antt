mod Names
pub mod Signs
pub mod FieldTestLaws
pub mod ClauseLaws
pub mod FilterLaws
pub mod ClauseSteps
pub mod Whole
pub mod Backs
