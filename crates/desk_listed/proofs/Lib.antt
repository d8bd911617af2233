pub mod Slots
pub mod Received
pub mod RunAnswers
pub mod ListedTerms
