-- What a reader must believe: the words of the public contracts.
pub mod Part
pub mod Mirror
-- The code's own words.
pub mod Parts
pub mod Inside
-- Laws of these words.
pub mod PartLaws
-- The words of the code and of laws about these files, which a reader need not believe.
pub mod Words
