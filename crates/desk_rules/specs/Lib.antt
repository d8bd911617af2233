pub mod Entries
pub mod DeskRefusals
pub mod Desk
pub mod Deliveries
pub mod All
pub mod NotInOrder
