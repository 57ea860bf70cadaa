-- The terminal's side, and rounds of all turns.
pub mod Hearing
pub mod Turning
pub mod Rounding
pub mod Going
pub mod Ending
-- A second terminal.
pub mod SecondsLaws
pub mod SecondSame
pub mod SecondLaws
pub mod LastGiven
pub mod Mirroring
pub mod MirrorEnding
