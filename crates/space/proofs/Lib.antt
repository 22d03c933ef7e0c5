pub mod Columns
pub mod Undone
pub mod Ranks
pub mod Spells
pub mod Fours
pub mod Normals
pub mod Coordinates
