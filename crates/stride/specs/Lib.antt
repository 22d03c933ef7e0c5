pub mod Divisors
pub mod PairAnswers
pub mod Strides
pub mod Shown
