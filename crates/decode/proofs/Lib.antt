pub mod StepWords
pub mod BeginWords
