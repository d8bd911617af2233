pub mod StepNames
