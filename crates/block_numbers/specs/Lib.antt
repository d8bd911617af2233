pub mod BlockNumbers
pub mod NotNumbered
