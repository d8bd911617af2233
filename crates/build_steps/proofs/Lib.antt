pub mod Decision
pub mod OwnWordsCode
pub mod OwnWordsContracts
