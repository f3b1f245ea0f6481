pub mod Report
pub mod Within
