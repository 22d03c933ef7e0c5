pub mod Algebra
pub mod OnCodes
pub mod Vectors
