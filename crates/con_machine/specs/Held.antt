-- The console's parts as one value.
use Rattle.std.specs.Prelude.{ℕ, Option}
use Rattle.con_alias.specs.Room.{Places}
use Rattle.con_machine.specs.State.{State}
use Rattle.con_machine.specs.Sound.{IsConsole}
use Rattle.con_machine.specs.declared.painting.seen.Seen.{Seen}
use Rattle.con_machine.specs.declared.parts.Parts.TheInside.{Inside}

-- how many more of each are promised to fit
pub record Spare : Type 0 where
  pub handles : ℕ
  pub reads : ℕ
  pub noted : ℕ
  pub rests : ℕ
  pub records : ℕ
  pub aliases : Places

-- the state; and beside it what is promised to fit, and where the view that was painted last was seen
pub record Held : Type 0 where
  pub state : State
  pub spare : Spare
  pub seen : Option Seen

abbrev pub state_of : Inside → State
state_of c = record {
  handles = c.handles.open_ones;
  procs = c.procs;
  reads = c.readers.reads;
  noted = c.notes.list;
  rests = c.rests.list;
  records = c.records.items;
  buffers = c.screens;
  histories = c.histories;
  aliases = c.aliases.programs;
  held = c.keys.held;
  buttons = c.buttons;
  mode = c.mode;
  cursor_keys = c.cursor_keys;
  title = c.title;
  drained = c.drained;
  closed = c.closed;
  painted = c.painted;
  resized = c.resized;
  asked = c.asked;
}

abbrev pub spare_of : Inside → Spare
spare_of c =
    record {
      handles =
          c.handles.spare;
      reads = c.readers.spare;
      noted = c.notes.spare;
      rests = c.rests.spare;
      records = c.records.spare;
      aliases = c.aliases.places;
    }

abbrev pub held_of : Inside → Held
held_of c = record { state = state_of c; spare = spare_of c; seen = c.seen }

abbrev pub IsSound : Inside → Type 0
IsSound c = IsConsole (state_of c) c.seen
