pub mod Codes
pub mod FlatRows
