-- What a reader must believe: the public clauses cite these.
pub mod Aliases
pub mod Expansion
-- The code's own words: the memory that is promised, and how sources are looked up.
pub mod Room
pub mod Hashed
-- The code's own words: how a target is read, sign by sign.
pub mod Signs
-- The words of the code and of laws about these files, which a reader need not believe.
pub mod Words
