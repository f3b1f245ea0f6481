pub mod ThreeCnots
pub mod Tests
pub mod Table
