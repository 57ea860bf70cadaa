-- What a reader must believe: the words that public clauses cite.
pub mod Painter
-- The code's own words.
pub mod Columns
pub mod Frame
pub mod Span
pub mod Rest
pub mod Lift
pub mod Placed
pub mod Drawn
pub mod Inside
