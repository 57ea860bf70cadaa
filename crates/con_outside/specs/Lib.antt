-- What a reader must believe: the words of the public contracts.
pub mod Outside
pub mod Named
pub mod Reading
-- Laws of these words, for the crates above.
pub mod Laws
-- The words of the code and of laws about these files, which a reader need not believe.
pub mod Words
