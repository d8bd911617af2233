pub mod Characters
pub mod Decimal
