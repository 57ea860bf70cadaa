-- What a reader must believe: the link, and how typing and playing end.
pub mod Encoded
pub mod Link
pub mod Playing
pub mod Typing
-- The code's own words and laws: pieces of a text in turn, and the fields of what types.
pub mod PlayedInTurn
pub mod TypedInTurn
pub mod TypistView
-- The words of the code and of laws about these files, which a reader need not believe.
pub mod Words
