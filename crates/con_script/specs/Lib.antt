-- What a reader must believe: sessions from a number. Documents are con_document's.
pub mod Generated
-- The code's own words: the places of faults, lists that are built from the front, what is drawn.
pub mod Places
pub mod Cursors
pub mod Draws
-- Laws: what it draws is what is drawn.
pub mod DrawLaws
