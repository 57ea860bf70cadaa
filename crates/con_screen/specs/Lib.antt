-- What a reader must believe: public contracts cite it.
-- Texts.
pub mod Told
pub mod Screen
pub mod Parts
pub mod Written
pub mod Laws
-- Modes, lines that are typed, the alternate screen, and the cells that are lent.
pub mod ModeSet
pub mod Echo
pub mod Alternate
pub mod ScreenLending
-- The code's own words.
pub mod ScreenView
pub mod AnswersView
pub mod Done
pub mod Completed
-- The words of the code and of laws about these files, which a reader need not believe.
pub mod Words
