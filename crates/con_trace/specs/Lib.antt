-- What a reader must believe: the whole report, and the line of an audit. Lines are con_lines'.
pub mod Report
pub mod Audit
-- The code's own words: a text cut into lines.
pub mod Cut
-- The words of the code and of laws about these files, which a reader need not believe.
pub mod Words
