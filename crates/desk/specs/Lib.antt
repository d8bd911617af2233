pub mod Exported
pub mod Clauses
