pub mod World
pub mod Sound
pub mod Contents
pub mod Worlds
