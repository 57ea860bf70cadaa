-- What a reader must believe: the words of the public contracts.
pub mod Reports
pub mod Presses
-- The words of the code and of laws about these files, which a reader need not believe.
pub mod Words
