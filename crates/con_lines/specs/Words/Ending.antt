-- The words of the code and of laws about Ending, which a reader need not believe.
use Rattle.std.specs.Char.Utf16.{utf16_lossy_chars}
use Rattle.std.specs.Str.{encode_utf8_all}
use Rattle.con_lines.specs.Ending.{Ending, alone, worded, at_frame}
use Rattle.con_lines.specs.declared.ending.EndLine.{EndLine}
use Rattle.con_lines.specs.declared.ending.EndLine.TheVariants as end_line

-- the last line that a value says; a path's units as UTF-8, with U+FFFD for half of a pair
abbrev pub ending_of : EndLine → Ending
ending_of (end_line.Plain s) = alone s
ending_of (end_line.Word s text) = worded s text.now
ending_of (end_line.Path us) = worded 3 (encode_utf8_all (utf16_lossy_chars us))
ending_of (end_line.Frame place kind) = at_frame place kind
