-- A text that is typed, and how typing ends.
use Rattle.std.specs.Prelude.{◌≡◌, ℕ, ◌≤◌, ◌⊎◌, List, ◌++◌, length, map, take, Option, IsSomeAnd, codes, flat_map}
use Rattle.con_outside.specs.Outside.{then_written, WrotePart}
use Rattle.con_units.specs.Split.{split}
use Rattle.con_units.specs.Utf8.{utf8}
use Rattle.con_term.specs.Terminal.{Terminal, IsTerminal, Shows}
use Rattle.con_term.specs.Play.{units_of, play, printed}
use Rattle.con_screen.specs.ModeSet.{mode_set}
use Rattle.con_screen.specs.Told.{nothing_told}
use Rattle.con_screens.specs.Buffer.{new_screen, buffer_written}
use Rattle.con_screens.specs.Buffers.{Buffers, buffer_at, first_buffers, with_buffer}
use Rattle.con_screens.specs.Lending.{screen_left}
use Rattle.con_screens.specs.View.{view_of}
use Rattle.con_lines.specs.Ending.{worded}
use Rattle.con_ending.specs.Ending.{Tells}
use Rattle.con_text.specs.Link.{IsTooLong}
use Rattle.con_text.specs.Playing.{IsWhole}

-- the units of a text of bytes: its characters, U+FFFD for each maximal ill-formed part, and for a cut end
abbrev pub text_units : List ℕ → List ℕ
text_units text = flat_map units_of (split utf8 text).items ++ take 1 (map (λ byte. 0xFFFD) (split utf8 text).tail)

-- one buffer of 80 by 25, where virtual terminal sequences act, after a text
abbrev pub text_typed : List ℕ → Buffers
text_typed text =
    with_buffer (screen_left (first_buffers 80 25) 0 (mode_set (new_screen 80 25) 7)) 0 (buffer_written nothing_told (text_units text))

-- On any terminal of 80 by 25 the frame, played, shows the window of the active buffer after the text, and prints or erases no more cells than that has.
abbrev pub IsFrame : List ℕ → List ℕ → Type 0
IsFrame text frame = let s = text_typed text in
    IsSomeAnd (buffer_at s s.active) (λ b. (t : Terminal) → IsTerminal 80 25 t → Shows (play t frame) (view_of b.shown.page))
    × ((t : Terminal) → IsTerminal 80 25 t → printed t frame ≤ 2000)

-- What may have happened, by what was taken from the link and what is left of it, and by what the terminal and the report have:
-- - there was no memory (9), and nothing was written; at most one piece more than a link may have was taken;
-- - the link was read to its end, and a frame of the text was written: all of it, and nothing else (0); or a part of it, and then there was no memory for the
--   rest (9), or the terminal failed, and the last line alone tells that (5);
-- - nothing was written to the terminal, since the link failed (4) or has too many bytes (10), and the last line alone tells which.
abbrev pub Typed : ℕ → List ℕ → Option (List ℕ) → Option (List ℕ) → Option (List ℕ) → Option (List ℕ) → Option (List ℕ) → Type 0 → Type 0
Typed status text left before now before_report report failed =
    ((status ≡ 9) × (now ≡ before) × (report ≡ before_report) × (length text ≤ 16781312))
    ⊎ ((IsWhole text left × ((frame : List ℕ) × IsFrame text frame
    × (((status ≡ 0) × (now ≡ then_written before frame) × (report ≡ before_report))
    ⊎ (WrotePart frame before now × (((status ≡ 9) × (report ≡ before_report)) ⊎ Tells status (worded 5 (codes "term")) before_report report failed)))))
    ⊎ ((now ≡ before) × (((length text ≤ 16777216) × Tells status (worded 4 (codes "link")) before_report report failed)
    ⊎ (IsTooLong text × Tells status (worded 10 (codes "too long")) before_report report failed))))
