pub mod Binary
pub mod Polynomials
