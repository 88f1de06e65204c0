pub mod KeptRows
pub mod Members
pub mod OrderFacts
pub mod SameFacts
