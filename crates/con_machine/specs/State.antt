-- The console as contracts see it: lists, numbers and texts, and no room.
use Rattle.std.specs.Prelude.{ℕ, ◌+◌, ◌==◌, ◌&&◌, Bool, false, not, List, [], ◌∷◌, map, filter, drop, get_or, Option, None}
use Rattle.std.specs.List.{find}
use Rattle.std.specs.Option.{option_map_or}
use Rattle.con_units.specs.Units.{changed_where}
use Rattle.con_units.specs.declared.view.View.{View}
use Rattle.con_units.specs.declared.view.BufferId.{BufferId}
use Rattle.con_events.specs.Session.{Clients}
use Rattle.con_events.specs.declared.script.Script.{Script}
use Rattle.con_handles.specs.declared.handle.Handle.{Handle}
use Rattle.con_handles.specs.declared.handle.Object.TheVariants as object
use Rattle.con_procs.specs.Procs.{started}
use Rattle.con_procs.specs.declared.proc.Proc.{Proc}
use Rattle.con_procs.specs.declared.proc.ProcStart.{ProcStart}
use Rattle.con_records.specs.declared.record.Record.{Record}
use Rattle.con_mouse.specs.Presses.{none_held}
use Rattle.con_mouse.specs.declared.buttons.Buttons.{Buttons}
use Rattle.con_history.specs.Histories.{LineHistories}
use Rattle.con_alias.specs.Aliases.{AliasList}
use Rattle.con_readers.specs.declared.open.Open.{Open}
use Rattle.con_screens.specs.Buffers.{Buffers, first_buffers}
use Rattle.con_machine.specs.declared.reads.noted.Noted.{Noted}
use Rattle.con_machine.specs.declared.reads.rest.Rest.{Rest}

pub record State : Type 0 where
  pub handles : List Handle
  pub procs : List Proc
  -- the open reads, and what is noted of those of lines
  pub reads : List Open
  pub noted : List Noted
  -- what is left of lines for further reads: one for each input handle that a line was read from
  pub rests : List Rest
  -- the input queue
  pub records : List Record
  pub buffers : Buffers
  pub histories : LineHistories
  pub aliases : List AliasList
  -- the terminal's bytes that are no key yet, and the buttons of the mouse that are held
  pub held : List ℕ
  pub buttons : Buttons
  -- the input mode
  pub mode : ℕ
  pub cursor_keys : Bool
  pub title : List ℕ
  -- no more comes from the link
  pub drained : Bool
  pub closed : Bool
  -- the view at the last Paint
  pub painted : Option View
  -- a Resize, or an Ask, stands after that Paint
  pub resized : Bool
  pub asked : Bool

-- ---- what is noted of a process's line read

abbrev pub noted_of : List Noted → ℕ → Option Noted
noted_of ns p = find (λ n. n.process == p) ns

abbrev pub without_noted : List Noted → ℕ → List Noted
without_noted ns p = filter (λ n. not (n.process == p)) ns

-- ---- rests

abbrev pub is_rest_of : ℕ → ℕ → Rest → Bool
is_rest_of p h r = (r.process == p) && (r.handle == h)

-- what is left for a handle's next line read
abbrev pub rest_in : List Rest → ℕ → ℕ → List ℕ
rest_in rs p h = option_map_or (λ r. r.units) (find (is_rest_of p h) rs) []

-- a rest that is there becomes another one
abbrev pub with_rest : List ℕ → List Rest → ℕ → ℕ → List Rest
with_rest units rs p h = changed_where (is_rest_of p h) (λ r. record r { units = units }) rs

-- a buffer by its number
abbrev pub id_of : ℕ → BufferId
id_of n = record { 0 = n }

-- ---- the console at the beginning of a session

-- the standard handles of each client: 1 for the input, 2 and 3 for the main buffer, each to read and to write
abbrev pub handles_from : ℕ → List Script → List Handle
handles_from p [] = []
handles_from p (s ∷ ss) = record { process = p; number = 1; object = object.Input; rights = 3 }
    ∷ record { process = p; number = 2; object = object.Output (id_of 0); rights = 3 }
    ∷ record { process = p; number = 3; object = object.Output (id_of 0); rights = 3 } ∷ handles_from (p + 1) ss

-- each client starts, with a rack of so many handlers; none where there is no rack
abbrev pub starts_of : List Script → List ℕ → List ProcStart
starts_of [] racks = []
starts_of (s ∷ ss) racks = record { program = s.program; group = s.group; rack = get_or racks 0 0 } ∷ starts_of ss (drop 1 racks)

-- a session's clients have started, with racks of so many handlers
abbrev pub opening : Clients → List ℕ → State
opening session racks = record {
  handles = handles_from 1 session.scripts;
  procs = map started (starts_of session.scripts racks);
  reads = [];
  noted = [];
  rests = [];
  records = [];
  buffers = first_buffers session.size.w session.size.h;
  histories = record { used = []; info = record { lines = 50; number = 4; flag = 0 } };
  aliases = [];
  held = [];
  buttons = none_held;
  mode = 0x37;
  cursor_keys = false;
  title = [];
  drained = false;
  closed = false;
  painted = None;
  resized = false;
  asked = false;
}
