pub mod Cases
pub mod Codes
pub mod Laying
pub mod Lenders
