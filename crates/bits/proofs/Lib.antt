pub mod ThreeCnots
