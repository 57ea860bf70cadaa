-- ---- What a reader must believe: public contracts cite these.
-- The part of a rectangle that a grid has.
pub mod Area
-- Rectangles, runs and scrolls, as a rule for each cell.
pub mod Rules
pub mod Runs
pub mod Scroll
-- ---- The code's own words.
pub mod Parts
pub mod Moves
