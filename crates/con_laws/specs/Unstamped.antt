-- Consoles that differ only in the stamps of rows: the numbers of grids, and what cells were when these were raised.
use Rattle.std.specs.Prelude.{◌≡◌, List, None, map}
use Rattle.std.specs.Option.{option_map}
use Rattle.con_events.specs.declared.entry.Entry.{Entry}
use Rattle.con_grid.specs.Picture.{Picture}
use Rattle.con_page.specs.Page.{Page}
use Rattle.con_screen.specs.Screen.{Screen}
use Rattle.con_screens.specs.Buffers.{Buffers}
use Rattle.con_screens.specs.declared.buffer.Buffer.{Buffer}
use Rattle.con_machine.specs.State.{State}
use Rattle.con_laws.specs.Walks.{step_arrivals, arrived}
use Rattle.con_machine.specs.History.{run, replies_of, is_legal}
use Rattle.con_machine.specs.Step.{step, is_ready}

-- a grid whose number was never raised
abbrev pub unstamped_grid : Picture → Picture
unstamped_grid g = record g { now = 0; moment = None }

abbrev pub unstamped_page : Page → Page
unstamped_page p = record p { grid = unstamped_grid p.grid }

abbrev pub unstamped_screen : Screen → Screen
unstamped_screen s = record s { page = unstamped_page s.page }

abbrev pub unstamped_buffer : Buffer → Buffer
unstamped_buffer b = record b { shown = unstamped_screen b.shown; hidden = unstamped_screen b.hidden }

abbrev pub unstamped_buffers : Buffers → Buffers
unstamped_buffers b = record b { slots = map (option_map unstamped_buffer) b.slots }

-- the console without its stamps
abbrev pub unstamped : State → State
unstamped s = record s { buffers = unstamped_buffers s.buffers }

-- two consoles differ in nothing else
abbrev pub AreSame : State → State → Type 0
AreSame s t = unstamped s ≡ unstamped t

-- An entry does the same in both: it is ready in both or in neither, it is answered alike, and puts the same records in; and behind it
-- they differ in nothing else.
pub record ActAlike (s t : State) (x : Entry) : Type 0 where
  pub ready : is_ready s x.actor x.event ≡ is_ready t x.actor x.event
  pub reply : (step s x.actor x.event).reply ≡ (step t x.actor x.event).reply
  pub arrives : step_arrivals s x ≡ step_arrivals t x
  pub after : AreSame (step s x.actor x.event).after (step t x.actor x.event).after

-- and so does a history
pub record RunAlike (s t : State) (h : List Entry) : Type 0 where
  pub legal : is_legal s h ≡ is_legal t h
  pub replies : replies_of s h ≡ replies_of t h
  pub arrives : arrived s h ≡ arrived t h
  pub after : AreSame (run s h) (run t h)
