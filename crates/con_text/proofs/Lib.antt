pub mod Pieces
pub mod WindowLemmas
pub mod Types
pub mod Heard
