pub mod Process
pub mod Rules
pub mod Machine
pub mod OwnWords
pub mod All
pub mod KnownPositions
pub mod Clauses
