-- Units on whose width terminals agree: those of common scripts, one column each.
-- Source: the Unicode Character Database, Blocks.txt; of a block only the parts whose characters advance by one column.
use Rattle.std.specs.Prelude.{ℕ, Bool, ◌||◌, ◌==◌}
use Rattle.std.specs.Int.{is_in_range}

-- Basic Latin; Latin-1 Supplement but for the soft hyphen, to IPA Extensions and Spacing Modifier Letters
abbrev pub is_latin : ℕ → Bool
is_latin u = is_in_range 0x20 0x7E u || is_in_range 0xA0 0xAC u || is_in_range 0xAE 0x2FF u

-- Greek; Cyrillic up to its combining marks and behind them; Latin Extended Additional, Greek Extended
abbrev pub is_greek_or_cyrillic : ℕ → Bool
is_greek_or_cyrillic u = is_in_range 0x370 0x3FF u || is_in_range 0x400 0x482 u || is_in_range 0x48A 0x52F u || is_in_range 0x1E00 0x1FFF u

-- General Punctuation but for spaces and format characters; Superscripts and Subscripts, Currency Symbols
abbrev pub is_punctuation : ℕ → Bool
is_punctuation u = is_in_range 0x2010 0x2027 u || is_in_range 0x2030 0x205E u || is_in_range 0x2070 0x20CF u

-- Letterlike Symbols, Number Forms, Arrows, Mathematical Operators; Box Drawing, Block Elements, Geometric Shapes; Braille
-- Patterns; the replacement character
abbrev pub is_symbol : ℕ → Bool
is_symbol u = is_in_range 0x2100 0x22FF u || is_in_range 0x2500 0x25FF u || is_in_range 0x2800 0x28FF u || u == 0xFFFD

-- the width is not doubted
unfoldable pub is_trusted : ℕ → Bool
is_trusted u = is_latin u || is_greek_or_cyrillic u || is_punctuation u || is_symbol u
