mod Zip
mod Places
mod Holding
mod Loading
mod Storing
mod OneMemory
mod Widened
pub mod Leaving
mod RunningOn
