pub mod Sheet
pub mod Price
pub mod Exact
pub mod Returned
pub mod All
