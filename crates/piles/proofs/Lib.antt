pub mod Piling
