pub mod Charts
pub mod Tables
pub mod Entries
pub mod Worked
pub mod Chips
