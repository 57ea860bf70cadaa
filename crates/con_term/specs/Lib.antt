-- What a reader must believe: the table of items, the split of bytes, what is shown, which attributes are the same.
pub mod Page
pub mod Effect
pub mod Cost
pub mod Terminal
pub mod Play
pub mod Same
-- What is proved of it, and the code's own words: parts of items, runs, the values behind the models.
pub mod Steps
pub mod PlayLaws
pub mod SidesLaws
pub mod Run
pub mod Ascii
pub mod Ends
pub mod Front
pub mod SheetView
pub mod BlockView
pub mod PageView
pub mod Inside
-- The words of the code and of laws about these files, which a reader need not believe.
pub mod Words
