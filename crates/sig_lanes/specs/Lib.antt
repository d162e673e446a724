pub mod Bits
pub mod Signature
