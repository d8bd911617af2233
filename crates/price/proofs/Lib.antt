pub mod Bands
pub mod SheetTests
pub mod Priced
pub mod PricedSheet
pub mod ExactPrice
pub mod Returns
