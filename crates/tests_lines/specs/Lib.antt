-- What the rows say: the change that a key makes, and steps of the open reads.
pub mod Rows
