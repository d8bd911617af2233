-- What contracts of functions say in their own terms.
pub mod Ready
pub mod Operations
