pub mod Listing
pub mod Foreign
pub mod Tests
pub mod Exporting
