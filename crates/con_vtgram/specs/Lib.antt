-- What a reader must believe: public contracts cite it.
pub mod Text
pub mod Numbers
pub mod Spoken
pub mod Few
pub mod Plain
pub mod Reads
pub mod State
pub mod Pen
pub mod Sgr
-- The code's own words, and laws.
pub mod Reader
pub mod Reading
pub mod Step
pub mod TitleKept
pub mod SequenceLaws
