pub mod BlockStores
pub mod PlaceSearch
