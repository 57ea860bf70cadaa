-- The memory that events are given.
use Rattle.std.specs.Prelude.{◌≡◌, ◌≤◌, ℕ, true, false, List, [], Option, None, Some, Result, Ok, Err, Vec, vec_capacity}
use Rattle.std.specs.declared.alloc.Global.{Global}
use Rattle.con_units.specs.Glyph.{Glyph}
use Rattle.con_units.specs.declared.code.Code.{Code}
use Rattle.con_units.specs.declared.code.Code.TheVariants as code
use Rattle.con_units.specs.declared.place.Coord.{Coord}
use Rattle.con_events.specs.declared.call.Words.{Words}
use Rattle.con_grid.specs.Picture.{Picture}
use Rattle.con_rects.specs.Runs.{run_count, run_cells}
use Rattle.con_machine.specs.CellCalls.{cells_for}
use Rattle.con_machine.specs.Words.CellCalls.{is_over}
use Rattle.con_handles.specs.declared.handle.Object.{Object}
use Rattle.con_page.specs.Words.Fit.{Fit, IsFit}
use Rattle.con_screens.specs.Buffers.{Buffers}
use Rattle.con_machine.specs.State.{State}
use Rattle.con_machine.specs.Outcome.{buffer_of}
use Rattle.con_machine.specs.Words.ScreenCalls.{page_at, is_size}
use Rattle.con_machine.specs.declared.rooms.rect_room.RectRoom.{RectRoom}

-- the cells of units and words, and memory for four numbers
abbrev pub IsRectRoom : Option RectRoom → List ℕ → Words → Type 0
IsRectRoom None units ws = ⊥
IsRectRoom (Some r) units ws = (r.cells.items ≡ cells_for units ws) × (r.sides.items ≡ []) × (4 ≤ vec_capacity r.sides)

-- the cells of a run, or that they are too many
abbrev pub IsRun : Result (Vec Glyph Global) Code → Picture → Coord → ℕ → Type 0
IsRun (Ok cells) g at n = (is_over (run_count g at n) ≡ false) × (cells.items ≡ run_cells g at n)
IsRun (Err why) g at n = (is_over (run_count g at n) ≡ true) × (why ≡ code.Limit)

-- the memory of another size of a buffer
abbrev pub IsFitAt : Buffers → ℕ → ℕ → ℕ → Option Fit → Type 0
IsFitAt b id w h None = ⊥
IsFitAt b id w h (Some f) = IsFit (page_at b id) f × (f.buffer ≡ record { w = w; h = h }) × (f.window ≡ record { w = b.w; h = b.h })

-- the same, where a call sets it
abbrev pub IsSizeRoom : State → Result Object Code → ℕ → ℕ → Option Fit → Type 0
IsSizeRoom s (Err why) w h f = Unit {0}
IsSizeRoom s (Ok o) w h f = is_size s.buffers (buffer_of o) w h ≡ true → IsFitAt s.buffers (buffer_of o) w h f
