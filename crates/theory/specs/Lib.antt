pub mod Laws
pub mod Recorder
