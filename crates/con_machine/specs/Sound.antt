-- What holds of every console.
use Rattle.std.specs.Prelude.{ℕ, ◌≡◌, ◌≢◌, ◌==◌, ◌||◌, not, Bool, false, List, Option, None, Some, slice_index_or, if◌then◌else◌}
use Rattle.con_units.specs.declared.view.View.{View}
use Rattle.con_handles.specs.Tables.{IsTable, tally, on}
use Rattle.con_handles.specs.declared.handle.Handle.{Handle}
use Rattle.con_handles.specs.declared.handle.Object.{Object}
use Rattle.con_handles.specs.declared.handle.Object.TheVariants as object
use Rattle.con_page.specs.Sides.{Sides}
use Rattle.con_screens.specs.Buffers.{Buffers, handles_of}
use Rattle.con_screens.specs.Words.Buffers.{AreBuffers, IsLive}
use Rattle.con_screens.specs.Words.Stamps.{Remembered, WasShown, all_remembered}
use Rattle.con_machine.specs.State.{State}
use Rattle.con_machine.specs.declared.painting.seen.Seen.{Seen}

-- ---- handles of buffers

-- the handle stands for the buffer
abbrev pub stands_for : ℕ → Object → Bool
stands_for id object.Input = false
stands_for id (object.Output b) = b.0 == id

-- each buffer but the main one counts the handles that stand for it
pub record AreCounted (b : Buffers) (hs : List Handle) : Type 0 where
  pub each : (id : ℕ) → id ≢ 0 → handles_of b id ≡ tally (on (stands_for id)) hs

-- what stands for a buffer stands for a live one
abbrev pub HasLive : Buffers → Object → Type 0
HasLive b object.Input = Unit {0}
HasLive b (object.Output id) = IsLive b id.0

-- ---- what was painted

abbrev pub side_of : Bool → Remembered → Sides
side_of alternate r = if alternate then r.alternate else r.main

abbrev pub IsPaintedOf : Option Remembered → Seen → Option View → Type 0
IsPaintedOf None seen painted = ⊥
IsPaintedOf (Some r) seen None = ⊥
IsPaintedOf (Some r) seen (Some v) = WasShown (side_of seen.alternate r) seen.left seen.top v

-- where the view that was painted last was seen, the screen's number was raised then, and the window showed it
abbrev pub IsPainted : List (Option Remembered) → Option Seen → Option View → Type 0
IsPainted rs None painted = Unit {0}
IsPainted rs (Some seen) painted = IsPaintedOf (slice_index_or rs seen.buffer.0 None) seen painted

-- ---- the whole

pub record IsConsole (s : State) (seen : Option Seen) : Type 0 where
  pub buffers : AreBuffers s.buffers
  pub counted : AreCounted s.buffers s.handles
  pub handles : IsTable s.handles
  pub seen_was : IsPainted (all_remembered s.buffers) seen s.painted

-- ---- a buffer that may be gone

-- what is known of the view that was painted last, where a handle of this object goes; the main buffer stays
abbrev pub known_without : Object → Option Seen → Option Seen
known_without object.Input seen = seen
known_without (object.Output id) None = None
known_without (object.Output id) (Some s) = if (id.0 == 0) || not (s.buffer.0 == id.0) then Some s else None
