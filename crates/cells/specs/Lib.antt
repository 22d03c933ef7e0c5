pub mod Bytes
pub mod Codes
pub mod Puts
pub mod Refusals
pub mod Stores
pub mod Texts
