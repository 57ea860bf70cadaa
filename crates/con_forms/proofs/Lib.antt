pub mod Answered
pub mod Plain
pub mod Lines
pub mod Rests
