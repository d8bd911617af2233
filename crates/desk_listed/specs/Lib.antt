pub mod Left
pub mod Clauses
