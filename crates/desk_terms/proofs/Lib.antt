pub mod BeforeForeign
pub mod Entered
pub mod Collected
pub mod Sent
