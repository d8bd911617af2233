pub mod Between
pub mod Sums
pub mod Beginning
pub mod Members
pub mod Clauses
