-- What a screen goes through, and what is shown of it.
use Rattle.std.specs.Prelude.{ℕ, ℤ, List, [], ◌∷◌, ◌++◌, map, codes}
use Rattle.con_page.specs.Setters.{new_page}
use Rattle.con_page.specs.declared.origin.Origin.{Origin}
use Rattle.con_screen.specs.Screen.{Screen}
use Rattle.con_screen.specs.ModeSet.{mode_set}
use Rattle.con_screen.specs.Told.{nothing_told}
use Rattle.con_screen.specs.Written.{written}

-- what is shown of a screen: its units, the window's corner, and the cursor
pub record Seen : Type 0 where
  pub units : List ℕ
  pub left : ℕ
  pub top : ℕ
  pub x : ℕ
  pub y : ℕ

abbrev pub seen : Screen → Seen
seen s = record { units = map (λ c. c.unit) s.page.grid.cells; left = s.page.left; top = s.page.top; x = s.page.x; y = s.page.y }

abbrev pub showing : List ℕ → ℕ → ℕ → ℕ → ℕ → Seen
showing units left top x y = record { units = units; left = left; top = top; x = x; y = y }

-- a new screen, by the columns and rows of its buffer, and of the window in it
abbrev pub new_screen : ℕ → ℕ → ℕ → ℕ → Screen
new_screen columns rows w h = record { page = new_page (record { w = columns; h = rows }) (record { w = w; h = h }); text = [] }

-- a text is written
abbrev pub with_text : Screen → List ℕ → Screen
with_text s us = (written s nothing_told us).screen

-- a sequence, by what stands behind its ESC
abbrev pub escape : List ℕ → List ℕ
escape us = 0x1B ∷ us

-- five columns and three rows, behind fourteen letters in a mode
abbrev pub letters : ℕ → Screen
letters mode = with_text (mode_set (new_screen 5 3 5 3) mode) (codes "abcdefghijklmn")

-- the same, erased, and then these units
abbrev pub erased : ℕ → List ℕ → Screen
erased mode us = with_text (letters mode) (escape (codes "[2J") ++ escape (codes "[H") ++ us)

abbrev pub at : ℕ → ℤ → Origin
at x y = record { x = x; y = y }
