pub mod Width
pub mod Coefficients
pub mod Near
pub mod Pairs
pub mod Fitted
