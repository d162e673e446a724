pub mod Words
pub mod Up
pub mod Below
pub mod Sound
