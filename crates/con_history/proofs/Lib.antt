pub mod Keeps
pub mod Places
mod Begins
mod Summing
