pub mod HeldFacts
