-- Calls on a screen buffer as a whole, on modes, and on the title.
use Rattle.std.specs.Prelude.{ℕ, ◌==◌, ◌&&◌, Bool, true, not, nat_lt, bit_and}
use Rattle.con_records.specs.declared.record.Record.{Record}
use Rattle.con_records.specs.declared.record.Record.TheVariants as kinds
use Rattle.con_handles.specs.declared.handle.Object.{Object}
use Rattle.con_handles.specs.declared.handle.Object.TheVariants as object
use Rattle.con_page.specs.Page.{Page}
use Rattle.con_screen.specs.Screen.{Screen}
use Rattle.con_screen.specs.ModeSet.{mode_set}
use Rattle.con_page.specs.Mode.{number_of}
use Rattle.con_screens.specs.Buffers.{screen_at}
use Rattle.con_screens.specs.Lending.{screen_left}
use Rattle.con_machine.specs.State.{State}
use Rattle.con_machine.specs.Outcome.{Outcome, by_answer, checked, has_bit}

-- the shown screen of a buffer, without its unfinished text
abbrev pub page_of : State → ℕ → Page
page_of s id = (screen_at s.buffers id).page

abbrev pub with_screen : State → ℕ → Screen → State
with_screen s id screen = record s { buffers = screen_left s.buffers id screen }

-- another page stands there
abbrev pub with_page : State → ℕ → Page → State
with_page s id page = with_screen s id (record (screen_at s.buffers id) { page = page })

abbrev pub mode_in : State → Object → ℕ
mode_in s object.Input = s.mode
mode_in s (object.Output id) = number_of (page_of s id.0).mode

-- input modes: no bit outside 0x02FF, and no echo without lines
abbrev pub is_input_mode : ℕ → Bool
is_input_mode n = (bit_and n 0x2FF == n) && not (has_bit n 4 && not (has_bit n 2))

-- a buffer has four bits
abbrev pub mode_changed : State → ℕ → Object → Outcome
mode_changed s n object.Input = by_answer s (checked (is_input_mode n)) (record s { mode = n })
mode_changed s n (object.Output id) = by_answer s (checked (nat_lt n 0x10)) (with_screen s id.0 (mode_set (screen_at s.buffers id.0) n))

-- a unit of a report as a key that went down
abbrev pub reported : ℕ → Record
reported u = kinds.Key (record { down = true; repeat = 1; vk = 0; scan = 0; unit = u; state = 0 })
