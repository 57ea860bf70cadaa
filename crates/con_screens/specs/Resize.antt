-- What a resize of the window makes of the buffers.
use Rattle.std.specs.Prelude.{ℕ, ◌==◌, max, Bool, not, map, if◌then◌else◌}
use Rattle.std.specs.Option.{option_map}
use Rattle.con_units.specs.declared.place.Size.{Size}
use Rattle.con_page.specs.Page.{Page}
use Rattle.con_screen.specs.Screen.{Screen}
use Rattle.con_page.specs.Fit.{refitted}
use Rattle.con_screens.specs.declared.buffer.Buffer.{Buffer}
use Rattle.con_screens.specs.Buffers.{Buffers}

-- a side that is the window's becomes the new one; another becomes the larger of itself and the new one
abbrev pub side_after : ℕ → ℕ → ℕ → ℕ
side_after side old new = if side == old then new else max side new

-- the size of a main screen after a resize of the window
abbrev pub size_after : Page → Size → Size
size_after p window = record { w = side_after p.grid.width p.w window.w; h = side_after p.grid.height p.h window.h }

-- an alternate screen becomes as large as the window
abbrev pub screen_resized : Bool → Size → Screen → Screen
screen_resized is_alternate window s = record s { page = refitted s.page (if is_alternate then window else size_after s.page window) window }

-- both screens of a buffer, each by itself
abbrev pub buffer_resized : Size → Buffer → Buffer
buffer_resized window b = record b { shown = screen_resized b.alternate window b.shown; hidden = screen_resized (not b.alternate) window b.hidden }

-- all buffers
abbrev pub all_resized : Buffers → Size → Buffers
all_resized s window = record s { slots = map (option_map (buffer_resized window)) s.slots; w = window.w; h = window.h }
