pub mod Accepted
pub mod PlayAll
pub mod RunLaws
pub mod CheckLaws
pub mod ListLaws
pub mod Exporting
pub mod CallsGrow
