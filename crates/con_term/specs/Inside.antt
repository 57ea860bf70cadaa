-- A terminal as contracts see it.
use Rattle.std.specs.Prelude.{ℕ, List}
use Rattle.con_vtgram.specs.Reads.{Reader}
use Rattle.con_term.specs.Page.{Page}
use Rattle.con_term.specs.Terminal.{Terminal}
use Rattle.con_term.specs.declared.terminal.Terminal.TheInside.{Inside}

-- the terminal of these parts
abbrev pub parts : List ℕ → Page → Reader → Terminal
parts bytes page reader = record { page = page; bytes = bytes; units = reader.tail }

abbrev pub terminal_of : Inside → Terminal
terminal_of t = parts t.bytes t.page t.units
