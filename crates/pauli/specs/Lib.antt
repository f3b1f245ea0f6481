pub mod Letters
pub mod Means
pub mod Matrices
pub mod Conjugation
