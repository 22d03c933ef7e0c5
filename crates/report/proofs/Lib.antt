pub mod Numerals
mod Listed
pub mod Chosen
mod Pieces
pub mod Lengths
pub mod ReadBack
pub mod Places
