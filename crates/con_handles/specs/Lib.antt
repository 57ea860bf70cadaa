-- What a reader must believe: the words of the public contracts.
pub mod Handles
pub mod Tables
-- Laws of these words, for the crates above.
pub mod CountLaws
-- The code's own words: the places in which handles are kept.
pub mod Places
-- The words of the code and of laws about these files, which a reader need not believe.
pub mod Words
