-- The numbers of the grids of screens.
use Rattle.std.specs.Prelude.{ℕ}
use Rattle.con_grid.specs.Picture.{raised}
use Rattle.con_screen.specs.Screen.{Screen}

-- the number of a screen's grid becomes n
abbrev pub numbered : Screen → ℕ → Screen
numbered s n = record s { page = record s.page { grid = raised s.page.grid n } }
