pub mod SessionLemmas
pub mod Generations
pub mod Certain
pub mod Foretelling
pub mod Reasons
pub mod Reports
pub mod Mirrors
pub mod ReadBacks
