pub mod Residue
pub mod Remainders
