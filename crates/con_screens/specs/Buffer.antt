-- One screen buffer: a main screen and an alternate one, of which one is shown.
use Rattle.std.specs.Prelude.{ℕ, Bool, true, false, List, [], ◌∷◌, fold, Option, None, Some, if◌then◌else◌}
use Rattle.std.specs.Option.{option_map_or}
use Rattle.con_units.specs.declared.place.Size.{Size}
use Rattle.con_screen.specs.Screen.{Screen}
use Rattle.con_page.specs.Setters.{new_page}
use Rattle.con_screen.specs.Told.{Told}
use Rattle.con_screen.specs.Written.{written, switches}
use Rattle.con_screen.specs.Alternate.{alternate_begun, mode_taken}
use Rattle.con_screens.specs.declared.buffer.Buffer.{Buffer}

-- a screen as large as the window
abbrev pub new_screen : ℕ → ℕ → Screen
new_screen w h = let size : Size = record { w = w; h = h } in record { page = new_page size size; text = [] }

abbrev pub new_buffer : ℕ → ℕ → ℕ → ℕ → Buffer
new_buffer w h handles birth = record { shown = new_screen w h; hidden = new_screen w h; alternate = false; handles = handles; birth = birth }

-- The screen that a switch says comes to be shown, unless it is: the alternate one as it begins, the main one as it was left, in
-- the mode of the alternate one.
abbrev pub turned : Buffer → Option Bool → Buffer
turned b None = b
turned b (Some true) = if b.alternate then b else record b { shown = alternate_begun b.hidden b.shown; hidden = b.shown; alternate = true }
turned b (Some false) = if b.alternate then record b { shown = mode_taken b.hidden b.shown.page; hidden = b.shown; alternate = false } else b

-- a buffer, and what was told so far
pub record BufferStage : Type 0 where
  pub buffer : Buffer
  pub told : Told

-- A unit goes to the shown screen. Where it ends a sequence that switches, what follows goes to the other one.
unfoldable pub unit_written : BufferStage → ℕ → BufferStage
unit_written s u =
    let st = written s.buffer.shown s.told (u ∷ []) in
    let now = record s.buffer { shown = st.screen } in
    record { buffer = if switches s.buffer.shown (u ∷ []) then turned now st.told.alternate else now; told = st.told }

-- the buffer after units, and what they told
unfoldable pub written_on : Buffer → Told → List ℕ → BufferStage
written_on b t units = fold unit_written (record { buffer = b; told = t }) units

abbrev pub buffer_written : Told → List ℕ → Buffer → Buffer
buffer_written t units b = (written_on b t units).buffer

-- what units tell that are written on a buffer, if there is one
abbrev pub told_on : Option Buffer → Told → List ℕ → Told
told_on o t units = option_map_or (λ b. (written_on b t units).told) o t
