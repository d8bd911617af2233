-- What contracts of functions say in their own terms.
pub mod Access
pub mod Invariant
pub mod SoundTree
