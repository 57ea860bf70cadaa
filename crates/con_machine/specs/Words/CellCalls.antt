-- The words of the code and of laws about CellCalls, which a reader need not believe.
use Rattle.std.specs.Prelude.{ℕ, ℤ, Bool, nat_lt, List, [], ◌∷◌, map, zip, replicate, Option, Result, Ok, Err, if◌then◌else◌}
use Rattle.con_units.specs.Limits.{most_items}
use Rattle.con_units.specs.Attr.{plain}
use Rattle.con_units.specs.Glyph.{Glyph, cell_of}
use Rattle.con_units.specs.declared.code.Code.{Code}
use Rattle.con_units.specs.declared.code.Code.TheVariants as code
use Rattle.con_units.specs.declared.place.Rect.{Rect}
use Rattle.con_events.specs.declared.call.Words.{Words}
use Rattle.con_events.specs.declared.reply.Reply.{Reply}
use Rattle.con_events.specs.declared.reply.Reply.TheVariants as replies
use Rattle.con_grid.specs.Picture.{Picture}
use Rattle.con_rects.specs.Area.{used_rect, cell_count}
use Rattle.con_rects.specs.Rules.{rect_cells, rect_written}
use Rattle.con_rects.specs.Runs.{run_count, units_written, words_written}
use Rattle.con_rects.specs.Scroll.{scrolled}
use Rattle.con_screens.specs.Buffers.{Buffers}
use Rattle.con_machine.specs.State.{State}
use Rattle.con_machine.specs.Outcome.{Outcome, refused, answered, done, on_buffer}
use Rattle.con_machine.specs.Words.Outcome.{by_result}
use Rattle.con_machine.specs.Words.ScreenCalls.{page_at, page_left}
use Rattle.con_machine.specs.CellCalls.{cells_of, with_cells, cells_for, are_cells, at_place, run_told}

abbrev pub paired : List ℕ → List ℕ → List Glyph
paired us ws = map (λ x. cell_of x.0 (plain x.1)) (zip us ws)

-- the cells that a buffer shows
abbrev pub cells_at : Buffers → ℕ → Picture
cells_at b id = (page_at b id).grid

-- others stand there
abbrev pub cells_left : Buffers → ℕ → Picture → Buffers
cells_left b id picture = page_left b id (record (page_at b id) { grid = picture })

-- more cells than one call may read or write
abbrev pub is_over : ℕ → Bool
is_over count = nat_lt most_items count

-- how many cells of a rectangle the buffer has
abbrev pub used_in : Picture → Rect → ℕ
used_in g r = cell_count (used_rect r g.width g.height)

abbrev pub used_of : Picture → Rect → Rect
used_of g r = used_rect r g.width g.height

abbrev pub sides_of : Rect → List ℤ
sides_of r = r.left ∷ r.top ∷ r.right ∷ r.bottom ∷ []

-- ---- ReadConsoleOutput, WriteConsoleOutput

abbrev pub rect_told : Picture → Rect → Reply
rect_told g r = if is_over (used_in g r) then replies.Fail code.Limit else replies.Cells (used_of g r) (rect_cells g r)

abbrev pub read_rect : State → ℕ → ℕ → Rect → Outcome
read_rect s p h r = on_buffer s p h 1 (λ id. answered s (rect_told (cells_of s id) r))

abbrev pub rect_answer : Picture → Rect → Result Rect Code
rect_answer g r = if is_over (used_in g r) then Err code.Limit else Ok (used_of g r)

abbrev pub wrote_rect : State → ℕ → ℕ → Rect → List ℕ → Words → Outcome
wrote_rect s p h r units ws = on_buffer s p h 2 (λ id.
    if are_cells r units ws
    then by_result s (rect_answer (cells_of s id) r) (with_cells s id (rect_written (cells_of s id) r (cells_for units ws)))
    (λ used. replies.Numbers (sides_of used))
    else refused s code.BadArgument)

-- ---- runs: ReadConsoleOutputCharacter, ReadConsoleOutputAttribute, and the calls that write and fill

abbrev pub read_run_units : State → ℕ → ℕ → ℤ → ℤ → ℕ → Outcome
read_run_units s p h x y n = on_buffer s p h 1 (λ id. answered s (run_told (cells_of s id) (at_place x y) n (λ g. g.unit)))

abbrev pub read_run_words : State → ℕ → ℕ → ℤ → ℤ → ℕ → Outcome
read_run_words s p h x y n = on_buffer s p h 1 (λ id. answered s (run_told (cells_of s id) (at_place x y) n (λ g. g.attr.word)))

abbrev pub filled_units : State → ℕ → ℕ → ℤ → ℤ → ℕ → ℕ → Outcome
filled_units s p h x y n unit = on_buffer s p h 2 (λ id.
    answered (with_cells s id (units_written (cells_of s id) (at_place x y) (replicate n unit))) (replies.Number (run_count (cells_of s id) (at_place x y) n)))

abbrev pub filled_words : State → ℕ → ℕ → ℤ → ℤ → ℕ → ℕ → Outcome
filled_words s p h x y n word = on_buffer s p h 2 (λ id.
    answered (with_cells s id (words_written (cells_of s id) (at_place x y) (replicate n word))) (replies.Number (run_count (cells_of s id) (at_place x y) n)))

-- ScrollConsoleScreenBuffer
abbrev pub scrolled_cells : State → ℕ → ℕ → Rect → Option Rect → ℤ → ℤ → ℕ → ℕ → Outcome
scrolled_cells s p h r clip x y unit word = on_buffer s p h 2 (λ id.
    done (with_cells s id (scrolled (cells_of s id) r clip (at_place x y) (cell_of unit (plain word)))))
