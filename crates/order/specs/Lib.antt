pub mod OrderList
pub mod Clauses
