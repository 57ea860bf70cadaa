-- The words of the code and of laws about Stamps, which a reader need not believe.
use Rattle.std.specs.Prelude.{ℕ, ◌≡◌, ◌*◌, List, length, map, Option, None, Some}
use Rattle.std.specs.Option.{option_map}
use Rattle.con_units.specs.Glyph.{Glyph}
use Rattle.con_units.specs.View.{row_of}
use Rattle.con_units.specs.declared.view.View.{View}
use Rattle.con_page.specs.Page.{Page}
use Rattle.con_page.specs.Sides.{Sides, sides}
use Rattle.con_screens.specs.Words.Buffer.{main_screen, alternate_screen}
use Rattle.con_screens.specs.Buffers.{Buffers}
use Rattle.con_screens.specs.View.{rows_in, view_of}
use Rattle.con_screens.specs.declared.buffer.Buffer.{Buffer}

-- a buffer's birth, and the sides, numbers and moments of its two screens
pub record Remembered : Type 0 where
  pub birth : ℕ
  pub main : Sides
  pub alternate : Sides

abbrev pub remembered : Buffer → Remembered
remembered b = record { birth = b.birth; main = sides (main_screen b).page; alternate = sides (alternate_screen b).page }

-- of all buffers, by their ids
abbrev pub all_remembered : Buffers → List (Option Remembered)
all_remembered s = map (option_map remembered) s.slots

-- the window at a corner, of the cells of the moment
abbrev pub WereRows : Option (List Glyph) → Sides → ℕ → ℕ → List Glyph → Type 0
WereRows None s left top rows = ⊥
WereRows (Some cells) s left top rows = rows_in s.width cells left top s.w s.h ≡ rows

-- when the number was last raised, the window at this corner had the rows of the view, all its cells
pub record WasShown (s : Sides) (left top : ℕ) (v : View) : Type 0 where
  pub rows : WereRows s.moment s left top v.rows
  pub count : length v.rows ≡ s.h * s.w

-- row y of the view is that of any view that was shown
abbrev pub IsAsShown : Page → ℕ → Type 0
IsAsShown p y = (v : View) → WasShown (sides p) p.left p.top v → row_of p.w (view_of p).rows y ≡ row_of p.w v.rows y
