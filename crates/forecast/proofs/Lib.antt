pub mod Settings
pub mod ReadSoFar
pub mod CallLaws
