-- What contracts of functions say in their own terms.
pub mod Searched
pub mod Stands
pub mod Climbing
pub mod Numbered
pub mod Descending
