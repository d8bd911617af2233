pub mod NodeStarts
pub mod Rule
pub mod All
pub mod NotStarts
