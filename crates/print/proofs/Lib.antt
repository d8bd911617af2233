pub mod Lengths
pub mod AnswerLines
pub mod Inputs
pub mod PrintedLog
