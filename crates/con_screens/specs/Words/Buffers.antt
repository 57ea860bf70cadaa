-- The words of the code and of laws about Buffers, which a reader need not believe.
use Rattle.std.specs.Prelude.{ℕ, ◌≡◌, ◌+◌, ◌<◌, ◌≤◌, ◌^◌, length, Option, IsSome, IfSome, slice_set}
use Rattle.std.specs.Option.{option_map_or}
use Rattle.con_screen.specs.Screen.{Screen}
use Rattle.con_screens.specs.Buffer.{new_screen, new_buffer}
use Rattle.con_screens.specs.Words.Buffer.{IsBuffer}
use Rattle.con_screens.specs.Buffers.{Buffers, buffer_at}
use Rattle.con_screens.specs.declared.buffer.Buffer.{Buffer}

abbrev pub IsLive : Buffers → ℕ → Type 0
IsLive s id = IsSome (buffer_at s id)

pub record AreBuffers (s : Buffers) : Type 0 where
  pub eight : length s.slots ≡ 8
  pub main : IsLive s 0
  pub active : IsLive s s.active
  pub some : (0 < s.w) × (0 < s.h)
  pub few : (s.w ≤ 512) × (s.h ≤ 256)
  pub each : (id : ℕ) → IfSome (buffer_at s id) (IsBuffer s.w s.h s.births)

-- the memory of a buffer was taken for these buffers
pub record IsRoom (s : Buffers) (b : Buffer) : Type 0 where
  pub buffer : b ≡ new_buffer s.w s.h 1 s.births
  pub births : s.births + 1 < 2 ^ 64

-- the shown screen of a place; a blank one of the window's size where it has no buffer
abbrev pub screen_in : Buffers → Option Buffer → Screen
screen_in s o = option_map_or (λ b. b.shown) o (new_screen s.w s.h)

abbrev pub with_slot : Buffers → ℕ → Option Buffer → Buffers
with_slot s id b = record s { slots = slice_set s.slots id b }

abbrev pub with_handles : ℕ → Buffer → Buffer
with_handles n b = record b { handles = n }
