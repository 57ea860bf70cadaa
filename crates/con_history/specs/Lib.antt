-- What a reader must believe: the public clauses cite it.
pub mod Histories
-- The code's own words: one step of what the histories do.
pub mod Parts
-- The code's own words: what holds of all histories at all times.
pub mod Sound
-- The code's own words: checksums of beginnings.
pub mod Sums
-- The words of the code and of laws about these files, which a reader need not believe.
pub mod Words
