pub mod Answered
pub mod Planned
pub mod Printed
pub mod Calls
pub mod Reading
