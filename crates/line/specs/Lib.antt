pub mod Asking
pub mod Lines
pub mod Fair
