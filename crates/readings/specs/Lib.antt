pub mod Counts
pub mod Readings
pub mod Points
pub mod Text
