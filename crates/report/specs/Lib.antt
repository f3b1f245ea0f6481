pub mod Features
pub mod Report
