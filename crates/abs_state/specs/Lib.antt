pub mod Bits
pub mod State
pub mod Words
pub mod Access
pub mod Kind
