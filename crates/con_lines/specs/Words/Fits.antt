-- The words of the code and of laws about Fits, which a reader need not believe.
use Rattle.std.specs.Prelude.{◌≡◌, ℕ, ◌<◌, ℤ, List}
use Rattle.std.specs.List.{AllByRecursion}
use Rattle.con_units.specs.Attr.{plain}
use Rattle.con_units.specs.Glyph.{Glyph, cell_of}
use Rattle.con_events.specs.Fits.{AreUnits, IsSigned}
use Rattle.con_events.specs.declared.entry.Entry.{Entry}
use Rattle.con_events.specs.declared.reply.Reply.{Reply}
use Rattle.con_lines.specs.Fits.{IsLine}

abbrev pub LineFits : Entry → Reply → ℕ → Type 0
LineFits e r end = IsLine (record { entry = e; reply = r; end = end })

abbrev pub AreBytes : List ℕ → Type 0
AreBytes bs = AllByRecursion (λ b. b < 256) bs

-- of 64 bits with a sign
abbrev pub IsWhole : ℤ → Type 0
IsWhole z = IsSigned 9223372036854775808 z

abbrev pub AreWhole : List ℤ → Type 0
AreWhole zs = AllByRecursion (IsSigned 9223372036854775808) zs

abbrev pub AreTexts : List (List ℕ) → Type 0
AreTexts ls = AllByRecursion AreUnits ls

-- cells as a read of cells gives them: units that cells hold, and words alone
abbrev pub AreRead : List Glyph → Type 0
AreRead gs = AllByRecursion (λ g. cell_of g.unit (plain g.attr.word) ≡ g) gs
