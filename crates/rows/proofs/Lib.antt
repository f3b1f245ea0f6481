pub mod OneRefusal
pub mod Decoding
pub mod Same
pub mod StepKinds
pub mod Results
