pub mod Margins
pub mod TakeLaws
pub mod PlaysLaws
pub mod AtQ
