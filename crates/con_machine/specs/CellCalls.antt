-- Calls on the cells of the shown screen of a buffer: rectangles and runs.
use Rattle.std.specs.Prelude.{ℕ, ℤ, ◌==◌, ◌&&◌, Bool, true, nat_lt, List, length, map, zip, replicate, Result, Ok, Err, if◌then◌else◌}
use Rattle.con_units.specs.Limits.{most_items}
use Rattle.con_units.specs.Attr.{plain}
use Rattle.con_units.specs.Glyph.{Glyph, cell_of}
use Rattle.con_units.specs.declared.code.Code.{Code}
use Rattle.con_units.specs.declared.code.Code.TheVariants as code
use Rattle.con_units.specs.declared.place.Coord.{Coord}
use Rattle.con_units.specs.declared.place.Rect.{Rect}
use Rattle.con_events.specs.declared.call.Words.{Words}
use Rattle.con_events.specs.declared.call.Words.TheVariants as words
use Rattle.con_events.specs.declared.reply.Reply.{Reply}
use Rattle.con_events.specs.declared.reply.Reply.TheVariants as replies
use Rattle.con_grid.specs.Picture.{Picture}
use Rattle.con_rects.specs.Area.{cell_count}
use Rattle.con_rects.specs.Runs.{run_count, run_cells, units_written, words_written}
use Rattle.con_machine.specs.State.{State}
use Rattle.con_machine.specs.Outcome.{Outcome, answered, or_refused, on_buffer}
use Rattle.con_machine.specs.ScreenCalls.{page_of, with_page}

-- the cells that a buffer shows
abbrev pub cells_of : State → ℕ → Picture
cells_of s id = (page_of s id).grid

-- others stand there
abbrev pub with_cells : State → ℕ → Picture → State
with_cells s id picture = with_page s id (record (page_of s id) { grid = picture })

-- as many words as there are units
abbrev pub words_of : Words → ℕ → List ℕ
words_of (words.One w) n = replicate n w
words_of (words.Each ws) n = ws

abbrev pub are_words : Words → ℕ → Bool
are_words (words.One w) n = true
are_words (words.Each ws) n = length ws == n

-- the cells of units and their words
abbrev pub cells_for : List ℕ → Words → List Glyph
cells_for units ws = map (λ x. cell_of x.0 (plain x.1)) (zip units (words_of ws (length units)))

-- as many units, and as many words, as a rectangle has cells
abbrev pub are_cells : Rect → List ℕ → Words → Bool
are_cells r units ws = (length units == cell_count r) && are_words ws (length units)

abbrev pub at_place : ℤ → ℤ → Coord
at_place x y = record { x = x; y = y }

-- one call reads and writes no more cells than this
abbrev pub run_told : Picture → Coord → ℕ → (Glyph → ℕ) → Reply
run_told g at n part = if nat_lt most_items (run_count g at n) then replies.Fail code.Limit else replies.Units (map part (run_cells g at n))

abbrev pub run_answer : Picture → Coord → ℕ → Result ℕ Code
run_answer g at n = if nat_lt most_items (run_count g at n) then Err code.Limit else Ok (run_count g at n)

abbrev pub wrote_run_units : State → ℕ → ℕ → ℤ → ℤ → List ℕ → Outcome
wrote_run_units s p h x y units = on_buffer s p h 2 (λ id. let g = cells_of s id in or_refused s (run_answer g (at_place x y) (length units))
    (λ n. answered (with_cells s id (units_written g (at_place x y) units)) (replies.Number n)))

abbrev pub wrote_run_words : State → ℕ → ℕ → ℤ → ℤ → List ℕ → Outcome
wrote_run_words s p h x y ws = on_buffer s p h 2 (λ id. let g = cells_of s id in or_refused s (run_answer g (at_place x y) (length ws))
    (λ n. answered (with_cells s id (words_written g (at_place x y) ws)) (replies.Number n)))
