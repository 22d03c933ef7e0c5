pub mod Answered
pub mod Fitting
