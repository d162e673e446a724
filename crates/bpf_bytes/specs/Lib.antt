pub mod Fault
pub mod Reading
pub mod Decoding
pub mod Steps
pub mod Opcode
pub mod Uses
pub mod Fields
pub mod Spelling
