pub mod Schema
pub mod Helper
pub mod Rows
