pub mod Sheets
pub mod Refusals
pub mod Runs
