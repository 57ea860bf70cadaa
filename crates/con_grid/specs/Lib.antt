-- ---- What a reader must believe: public contracts cite these.
-- A grid, and what changes it.
pub mod Picture
-- The stamps of rows.
pub mod Stamps
-- A part of a row that is as it was.
pub mod Parts
-- ---- The code's own words.
pub mod Inside
pub mod Ring
-- ---- The words of the code and of laws about these files, which a reader need not believe.
pub mod Words
