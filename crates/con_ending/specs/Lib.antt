-- What a reader must believe: how a report goes, and a session's file.
pub mod Ending
pub mod Files
-- The code's own words, and laws of them for the crates above.
pub mod Laws
-- The words of the code and of laws about these files, which a reader need not believe.
pub mod Words
