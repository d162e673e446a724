pub mod Codes
pub mod System
pub mod Execution
pub mod Turned
pub mod Together
pub mod Fields
