pub mod Cuts
pub mod Counted
pub mod Compared
pub mod Written
