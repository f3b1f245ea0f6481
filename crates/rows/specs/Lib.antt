pub mod Kinds
pub mod StepKinds
pub mod Numbers
pub mod Steps
pub mod Refusals
pub mod Coding
pub mod Printed
