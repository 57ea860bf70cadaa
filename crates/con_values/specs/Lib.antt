-- The code's own words: what a value of JSON is as a number, a rectangle, a record.
pub mod Values
-- Words of lists that are read from the front.
pub mod Cursors
