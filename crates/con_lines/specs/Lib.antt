-- What a reader must believe: how values are shown, events with their arguments and answers, lines, which lines there are, the last line.
pub mod Hex
pub mod Shown
pub mod Form
pub mod Line
pub mod Fits
pub mod Ending
-- The code's own words: bytes value by value, and the way back.
pub mod Writing
pub mod Told
pub mod Last
-- The words of the code and of laws about these files, which a reader need not believe.
pub mod Words
