pub mod RowLemmas
pub mod AttachedLemmas
pub mod Worked
