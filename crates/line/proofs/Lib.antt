pub mod Marks
pub mod OnLine
pub mod Asked
pub mod Restored
