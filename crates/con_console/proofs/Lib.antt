pub mod Plain
pub mod Ran
