-- What a reader must believe: a report as far as it is told, and its last line.
pub mod Telling
-- Laws of a report, for the crates above.
pub mod Laws
