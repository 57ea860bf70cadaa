-- A last line as it is read.
use Rattle.std.specs.Str.{IsUtf8}
use Rattle.con_lines.specs.declared.last.Last.{Last}
use Rattle.con_lines.specs.declared.last.Last.TheVariants as last
use Rattle.con_lines.specs.Ending.{Ending, alone, worded, at_frame}

abbrev pub last_of : Last → Ending
last_of (last.Alone s) = alone s
last_of (last.Worded s text) = worded s text.now
last_of (last.Frame place kind) = at_frame place kind

-- its text is UTF-8
abbrev pub TextFits : Ending → Type 0
TextFits (alone s) = Unit {0}
TextFits (worded s text) = IsUtf8 text
TextFits (at_frame place kind) = Unit {0}
