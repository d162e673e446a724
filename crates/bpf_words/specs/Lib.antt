pub mod Condition
pub mod End
pub mod Operation
pub mod Word
