pub mod Counts
pub mod Places
pub mod Shapes
pub mod Points
