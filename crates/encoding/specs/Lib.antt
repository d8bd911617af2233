pub mod Bytes
pub mod All
