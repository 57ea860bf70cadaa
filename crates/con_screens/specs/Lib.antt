-- What a reader must believe: what the public clauses cite.
pub mod Buffer
pub mod Buffers
pub mod View
pub mod Lending
pub mod Resize
pub mod Slot
pub mod Stamps
-- Laws, proved, for crates above.
pub mod LentLaws
pub mod HandleLaws
pub mod ViewLaws
pub mod StampLaws
pub mod WrittenInTurn
-- The code's own words.
pub mod Views
pub mod FitsView
-- The words of the code and of laws about these files, which a reader need not believe.
pub mod Words
