pub mod Errors
pub mod StepLines
pub mod Parts
