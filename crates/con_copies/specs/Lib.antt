-- The code's own words.
pub mod Shapes
