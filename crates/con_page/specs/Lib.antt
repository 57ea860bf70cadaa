-- What a reader must believe: public contracts cite it.
-- The table of effects, and what it speaks of.
pub mod Mode
pub mod Page
pub mod Print
pub mod Effect
-- Setters, sizes, lines that are typed, the alternate screen, and the cells that are lent.
pub mod Setters
pub mod Fit
pub mod Echo
pub mod Sides
pub mod Alternate
pub mod PageLending
-- The code's own words.
pub mod PageView
pub mod FitView
pub mod Applied
pub mod Kinds
pub mod Run
pub mod Ends
-- Laws of items.
pub mod ModeLaws
pub mod SidesLaws
-- The words of the code and of laws about these files, which a reader need not believe.
pub mod Words
