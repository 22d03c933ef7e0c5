pub mod Products
pub mod Evals
pub mod Folds
pub mod Roots
pub mod Lines
pub mod Transfer
