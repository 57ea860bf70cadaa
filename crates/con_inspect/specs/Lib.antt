-- What a reader must believe: four files by name, what is found of them, and how an audit of them ends.
pub mod Four
pub mod Finding
pub mod Auditing
-- The words of the code and of laws about these files, which a reader need not believe.
pub mod Words
