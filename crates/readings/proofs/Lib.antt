pub mod Told
pub mod Reversal
pub mod Agreed
pub mod Concluded
