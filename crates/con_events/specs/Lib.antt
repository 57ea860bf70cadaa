-- What a reader must believe: the limits of a session, calls and waits with their arguments, what types keep, and whose events are.
pub mod Session
pub mod Arg
pub mod Table
pub mod Fits
pub mod Actors
-- The code's own words: calls and records by rows, how one is read from them, and calls by their names.
pub mod RecordTable
pub mod Reading
pub mod Names
pub mod Shapes
-- Laws: what is told is what is read.
pub mod TableLaws
-- The words of the code and of laws about these files, which a reader need not believe.
pub mod Words
