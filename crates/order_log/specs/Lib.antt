pub mod Attempts
pub mod Cells
pub mod Codes
pub mod Facts
pub mod Fault
