pub mod Forms
pub mod Evaluation
pub mod Soundness
pub mod Sheets
