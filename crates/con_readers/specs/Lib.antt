-- What a reader must believe: the public clauses cite these.
pub mod Wants
pub mod Serving
pub mod Reads
pub mod Act
pub mod Pieces
pub mod Answering
pub mod Distinct
pub mod Lines
-- The code's own word: which step is none.
pub mod Steps
-- The words of the code and of laws about these files, which a reader need not believe.
pub mod Words
