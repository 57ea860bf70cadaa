-- What a reader must believe: which words are a form, and what each asks for.
pub mod Asked
pub mod Words
-- The form of what the command met.
pub mod Naming
-- The code's own words of numbers.
pub mod Spelling
