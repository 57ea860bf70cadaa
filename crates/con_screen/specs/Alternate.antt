-- The alternate screen of a main one.
use Rattle.std.specs.Prelude.{[], if◌then◌else◌}
use Rattle.con_page.specs.Page.{Page}
use Rattle.con_page.specs.Alternate.{alternate_page}
use Rattle.con_screen.specs.Parts.{has_sequences}
use Rattle.con_screen.specs.Screen.{Screen}

abbrev pub alternate_begun : Screen → Screen → Screen
alternate_begun own main = record { page = alternate_page own.page main.page; text = [] }

-- a screen with the mode of another one; unfinished text goes where sequences do not act
abbrev pub mode_taken : Screen → Page → Screen
mode_taken s other = record { page = record s.page { mode = other.mode }; text = if has_sequences other.mode then s.text else [] }
