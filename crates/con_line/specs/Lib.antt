-- What a reader must believe: the public clauses cite it. The code has no words of its own.
pub mod Line
-- The words of the code and of laws about these files, which a reader need not believe.
pub mod Words
