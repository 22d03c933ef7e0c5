pub mod Room
pub mod Reports
pub mod Reading
pub mod Meant
pub mod Written
