pub mod Settings
pub mod Requests
pub mod Asked
