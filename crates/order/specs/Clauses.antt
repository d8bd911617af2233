-- What contracts of functions say in their own terms.
pub mod Opens
pub mod Listed
