pub mod Divisors
pub mod StrideView
