pub mod Left
pub mod Clauses
pub mod Exported
