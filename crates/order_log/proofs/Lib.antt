mod Attempts
mod Facts
mod Places
mod Prefixes
