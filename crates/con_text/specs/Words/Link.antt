-- The words of the code and of laws about Link, which a reader need not believe.
use Rattle.std.specs.Prelude.{◌≡◌, ℕ, ◌≤◌, List, [], length, Option, IfSome}
use Rattle.con_text.specs.Link.{IsTooLong}
use Rattle.con_text.specs.declared.reading.ReadEnd.{ReadEnd}
use Rattle.con_text.specs.declared.reading.ReadEnd.TheVariants as reading

-- the text was taken, and this is left
abbrev pub IsRead : ReadEnd → List ℕ → Option (List ℕ) → Type 0
IsRead reading.End text left = (length text ≤ 16777216) × IfSome left (λ rest. rest ≡ [])
IsRead reading.Failed text left = length text ≤ 16777216
IsRead reading.TooLong text left = IsTooLong text
IsRead reading.Memory text left = length text ≤ 16781312
