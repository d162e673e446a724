pub mod Run
pub mod SameBytes
pub mod Replica
pub mod Standing
pub mod Taking
pub mod Answered
pub mod Settings
