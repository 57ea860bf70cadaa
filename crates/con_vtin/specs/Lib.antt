-- What a reader must believe: the words of the public contracts.
pub mod Table
pub mod Keys
pub mod Pieces
pub mod Sequences
pub mod ReadBack
pub mod Counts
pub mod Characters
-- The code's own words: what the state of a reader says of the bytes held.
pub mod Holding
-- The words of the code and of laws about these files, which a reader need not believe.
pub mod Words
