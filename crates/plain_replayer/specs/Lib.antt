pub mod Replay
pub mod Codes
pub mod Report
pub mod LogCodes
pub mod Kind
