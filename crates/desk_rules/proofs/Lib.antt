pub mod Rises
pub mod TwoQueues
pub mod InOrder
pub mod Serving
pub mod Lists
pub mod Calls
pub mod Delivering
pub mod DeskOrder
