-- What a reader must believe: the public clauses cite these.
pub mod Keys
pub mod Mask
pub mod Cooked
-- The code's own words.
pub mod Parts
-- What follows from them, and is the contract of the functions of `laws`.
pub mod Laws
-- The words of the code and of laws about these files, which a reader need not believe.
pub mod Words
