-- ---- What a reader must believe: public contracts cite these.
-- Attributes, shades and cells.
pub mod Shade
pub mod Attr
pub mod Stored
pub mod Glyph
-- Rows, views, places and sizes.
pub mod View
pub mod Rect
pub mod Natural
pub mod Limits
-- Texts.
pub mod Units
pub mod Plain
pub mod Decimal
pub mod Split
pub mod Laws
pub mod Utf8
-- The numbers of refusals.
pub mod Code
-- ---- The code's own words, and laws that are proved.
pub mod Held
pub mod Past
pub mod PenLaws
pub mod SplitLaws
pub mod ReadLaws
-- ---- The words of the code and of laws about these files, which a reader need not believe.
pub mod Words
