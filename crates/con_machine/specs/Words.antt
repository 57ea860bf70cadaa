-- The words of the code and of laws about the files of the same names in the folder above, which a reader need not believe.
pub mod Along
pub mod CellCalls
pub mod Chain
pub mod Client
pub mod Follows
pub mod HandleCalls
pub mod History
pub mod Outcome
pub mod Painting
pub mod ProcessCalls
pub mod Reads
pub mod ScreenCalls
pub mod Serving
pub mod State
pub mod Step
pub mod Terminal
