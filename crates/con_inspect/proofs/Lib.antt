pub mod FileLemmas
pub mod Ends
pub mod OneList
pub mod Fronts
pub mod Judgements
mod Rows
