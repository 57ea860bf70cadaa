-- The words of the code and of laws about Typing, which a reader need not believe.
use Rattle.std.specs.Prelude.{ℕ, ◌≤◌, List, [], ◌∷◌, map, take, IsSomeAnd, flat_map}
use Rattle.con_units.specs.Split.{split_after}
use Rattle.con_units.specs.Utf8.{utf8}
use Rattle.con_term.specs.Terminal.{Terminal, IsTerminal, Shows}
use Rattle.con_term.specs.Play.{units_of, play, printed}
use Rattle.con_screen.specs.ModeSet.{mode_set}
use Rattle.con_screen.specs.Told.{nothing_told}
use Rattle.con_screens.specs.Buffer.{new_screen, buffer_written}
use Rattle.con_screens.specs.Buffers.{Buffers, buffer_at, first_buffers, with_buffer}
use Rattle.con_screens.specs.Lending.{screen_left}
use Rattle.con_screens.specs.View.{view_of}

-- one more U+FFFD for a character that is cut at the text's end
abbrev pub cut_units : List ℕ → List ℕ
cut_units held = take 1 (map (λ byte. 0xFFFD) held)

-- one buffer of 80 by 25, where virtual terminal sequences act
abbrev pub opening : Buffers
opening = screen_left (first_buffers 80 25) 0 (mode_set (new_screen 80 25) 7)

abbrev pub units_typed : Buffers → List ℕ → Buffers
units_typed buffers units = with_buffer buffers 0 (buffer_written nothing_told units)

-- on any terminal of that size, the bytes, played, show the window of the active buffer, which is there
abbrev pub ShowsBuffers : List ℕ → Buffers → Type 0
ShowsBuffers bytes s = IsSomeAnd (buffer_at s s.active) (λ b. (t : Terminal) → IsTerminal 80 25 t → Shows (play t bytes) (view_of b.shown.page))

-- on any terminal of that size, the bytes print or erase at most so many cells
abbrev pub PrintsAtMost : ℕ → List ℕ → Type 0
PrintsAtMost n bytes = (t : Terminal) → IsTerminal 80 25 t → printed t bytes ≤ n

-- in the midst of a text: the buffers, and the bytes that are no character yet
pub record Typing : Type 0 where
  pub buffers : Buffers
  pub held : List ℕ

unfoldable pub heard : Typing → List ℕ → Typing
heard t bytes = record {
  buffers = units_typed t.buffers (flat_map units_of (split_after utf8 t.held bytes).items);
  held = (split_after utf8 t.held bytes).tail;
}

abbrev pub ended_with : Buffers → List ℕ → Buffers
ended_with buffers [] = buffers
ended_with buffers (byte ∷ bytes) = units_typed buffers (0xFFFD ∷ [])

abbrev pub ended : Typing → Buffers
ended t = ended_with t.buffers t.held
