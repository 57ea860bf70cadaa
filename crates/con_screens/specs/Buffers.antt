-- The screen buffers of a console.
use Rattle.std.specs.Prelude.{ℕ, ◌+◌, ◌-◌, ◌==◌, nat_le, Bool, false, List, ◌∷◌, replicate}
use Rattle.std.specs.Prelude.{Option, None, Some, is_none, slice_index_or, slice_set, if◌then◌else◌}
use Rattle.std.specs.List.{position}
use Rattle.std.specs.Option.{option_map, option_map_or}
use Rattle.con_screen.specs.Screen.{Screen}
use Rattle.con_screens.specs.Buffer.{new_screen, new_buffer}
use Rattle.con_screens.specs.declared.buffer.Buffer.{Buffer}

pub record Buffers : Type 0 where
  -- the live buffers by their ids; eight places
  pub slots : List (Option Buffer)
  -- the window's sides
  pub w : ℕ
  pub h : ℕ
  -- the id of the active one
  pub active : ℕ
  -- the birth of the next one
  pub births : ℕ

-- the buffer of an id
abbrev pub buffer_at : Buffers → ℕ → Option Buffer
buffer_at s id = slice_index_or s.slots id None

-- the shown screen of an id; a blank one of the window's size where it has no buffer
abbrev pub screen_at : Buffers → ℕ → Screen
screen_at s id = option_map_or (λ b. b.shown) (buffer_at s id) (new_screen s.w s.h)

-- whether a buffer shows its alternate screen
abbrev pub is_alternate : Buffers → ℕ → Bool
is_alternate s id = option_map_or (λ b. b.alternate) (buffer_at s id) false

-- the least id that no live buffer has, of the eight
abbrev pub free_id : Buffers → Option ℕ
free_id s = position is_none s.slots

-- the buffer of an id becomes another one
abbrev pub with_buffer : Buffers → ℕ → (Buffer → Buffer) → Buffers
with_buffer s id f = record s { slots = slice_set s.slots id (option_map f (buffer_at s id)) }

-- a buffer as large as the window, with one handle
abbrev pub created : Buffers → ℕ → Buffers
created s id = record s { slots = slice_set s.slots id (Some (new_buffer s.w s.h 1 s.births)); births = s.births + 1 }

abbrev pub handles_of : Buffers → ℕ → ℕ
handles_of s id = option_map_or (λ b. b.handles) (buffer_at s id) 0

-- one handle more; the main buffer's are not counted
abbrev pub handle_retained : Buffers → ℕ → Buffers
handle_retained s id = if id == 0 then s else with_buffer s id (λ b. record b { handles = handles_of s id + 1 })

-- the buffer of an id is gone; where it was active, the main one is
abbrev pub gone : Buffers → ℕ → Buffers
gone s id = record s { slots = slice_set s.slots id None; active = if s.active == id then 0 else s.active }

-- one handle less; with its last one a buffer goes
abbrev pub handle_released : Buffers → ℕ → Buffers
handle_released s id =
    if id == 0 then s
    else if nat_le (handles_of s id) 1 then gone s id else with_buffer s id (λ b. record b { handles = handles_of s id - 1 })

-- the buffers of a new console
abbrev pub first_buffers : ℕ → ℕ → Buffers
first_buffers w h = record { slots = Some (new_buffer w h 0 0) ∷ replicate 7 None; w = w; h = h; active = 0; births = 1 }
