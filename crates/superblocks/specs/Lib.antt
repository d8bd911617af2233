pub mod Supers
pub mod SuperRows
