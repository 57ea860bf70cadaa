-- A screen is lent.
use Rattle.std.specs.Prelude.{ℕ}
use Rattle.con_screen.specs.Screen.{Screen}
use Rattle.con_screens.specs.declared.buffer.Buffer.{Buffer}
use Rattle.con_screens.specs.Buffers.{Buffers, with_buffer}

abbrev pub with_shown : Screen → Buffer → Buffer
with_shown s b = record b { shown = s }

abbrev pub screen_left : Buffers → ℕ → Screen → Buffers
screen_left s id w = with_buffer s id (with_shown w)
