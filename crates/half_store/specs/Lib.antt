pub mod HalfStores
pub mod Rows
