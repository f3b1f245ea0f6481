pub mod Runs
pub mod Decimal
pub mod Suits
pub mod OneGate
pub mod Judging
