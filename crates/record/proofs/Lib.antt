pub mod Lengths
pub mod Cuts
pub mod ReadBack
