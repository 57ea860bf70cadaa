-- What a reader must believe: the words that public clauses of con_paint cite.
pub mod Ink
pub mod Compared
-- The code's own words.
pub mod Bytes
pub mod Spells
pub mod Leads
pub mod Pens
pub mod Places
pub mod Spot
pub mod Width
pub mod Paint
pub mod Checksum
