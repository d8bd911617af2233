pub mod NumbersSound
pub mod Wrote
pub mod RunNumbers
pub mod ClaimLaws
