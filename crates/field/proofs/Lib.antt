pub mod Abstract
pub mod Ring
pub mod Elements
pub mod Inverses
pub mod Every
pub mod Vectors
pub mod Within
