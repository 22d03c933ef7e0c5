pub mod ByteStores
pub mod Rows
