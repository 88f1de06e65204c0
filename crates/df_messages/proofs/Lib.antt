pub mod FieldFacts
