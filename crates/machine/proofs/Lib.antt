pub mod Trading
pub mod Renamed
pub mod LocalLaws
pub mod OneGate
pub mod Crossing
