-- A console in which nothing is left to do, as every event leaves it.
use Rattle.std.specs.Prelude.{◌≡◌, ℕ, Bool, true, false}
use Rattle.con_events.specs.declared.actor.Actor.TheVariants as actors
use Rattle.con_events.specs.declared.call.Call.{Call}
use Rattle.con_events.specs.declared.call.Call.TheVariants as calls
use Rattle.con_events.specs.declared.entry.Entry.{Entry}
use Rattle.con_events.specs.declared.event.Event.TheVariants as events
use Rattle.con_machine.specs.State.{State}
use Rattle.con_machine.specs.Serving.{settled_state}
use Rattle.con_machine.specs.Closing.{closing}

-- serving the open reads once more leaves it as it is, and so does closing it where all wait for what never comes
pub record IsSettled (s : State) : Type 0 where
  pub served : settled_state s ≡ s
  pub closes : closing s ≡ s

-- a client's call, as an entry
abbrev pub by_call : ℕ → Call → Entry
by_call p c = record { actor = actors.Client p; event = events.Call c }

-- a call that only tells something
abbrev pub only_tells : Call → Bool
only_tells (calls.Mode h) = true
only_tells (calls.Info h) = true
only_tells (calls.CursorInfo h) = true
only_tells calls.Title = true
only_tells (calls.RectRead h rect) = true
only_tells (calls.RunReadUnits h x y n) = true
only_tells (calls.RunReadAttrs h x y n) = true
only_tells (calls.Peek h n) = true
only_tells (calls.Count h) = true
only_tells calls.HistoryInfo = true
only_tells calls.HistoryList = true
only_tells (calls.AliasGet program source) = true
only_tells (calls.AliasList program) = true
only_tells calls.Processes = true
only_tells _ = false
