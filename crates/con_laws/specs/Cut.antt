-- However the terminal's bytes are cut into Feeds, the same comes in.
use Rattle.std.specs.Prelude.{◌≡◌, ℕ, pos, Bool, true, false, List, [], ◌∷◌, ◌++◌, map}
use Rattle.con_events.specs.declared.actor.Actor.TheVariants as actors
use Rattle.con_events.specs.declared.entry.Entry.{Entry}
use Rattle.con_events.specs.declared.event.Event.TheVariants as events
use Rattle.con_readers.specs.declared.open.Open.{Open}
use Rattle.con_readers.specs.declared.open.OpenRead.{OpenRead}
use Rattle.con_readers.specs.declared.open.OpenRead.TheVariants as reads
use Rattle.con_records.specs.declared.record.Record.{Record}
use Rattle.con_records.specs.declared.record.Record.TheVariants as kinds
use Rattle.con_machine.specs.State.{State}
use Rattle.con_machine.specs.EventLaws.{AreDone}
use Rattle.con_laws.specs.Walks.{arrived}
use Rattle.con_machine.specs.History.{run}
use Rattle.con_machine.specs.Outcome.{has_bit}
use Rattle.con_machine.specs.Terminal.{fed}

-- bytes of the terminal, as one entry
abbrev pub feed : List ℕ → Entry
feed bytes = record { actor = actors.Terminal; event = events.Feed bytes }

-- the same bytes in two pieces, and in one
abbrev pub in_two : List ℕ → List ℕ → List Entry
in_two a b = feed a ∷ feed b ∷ []

abbrev pub in_one : List ℕ → List ℕ → List Entry
in_one a b = feed (a ++ b) ∷ []

-- a record but for its place. That of the mouse is counted from the window as it stands when the record comes, and what a line
-- read echoes between two Feeds may move the window.
abbrev pub unplaced : Record → Record
unplaced (kinds.Mouse m) = kinds.Mouse (record m { x = pos 0; y = pos 0 })
unplaced (kinds.Key k) = kinds.Key k
unplaced (kinds.Size s) = kinds.Size s
unplaced (kinds.Menu m) = kinds.Menu m
unplaced (kinds.Focus f) = kinds.Focus f

-- a read that is done, or of a line
abbrev pub is_line_or_done : OpenRead → Bool
is_line_or_done (reads.Done a) = true
is_line_or_done (reads.Line line) = true
is_line_or_done (reads.Units n) = false
is_line_or_done (reads.Records n) = false

abbrev pub AreLines : List Open → Type 0
AreLines [] = Unit {0}
AreLines (o ∷ os) = (is_line_or_done o.read ≡ true) × AreLines os

-- What comes in of bytes in two pieces is what comes in of them in one.
pub record CutAnywhere (s : State) (a b : List ℕ) : Type 0 where
  -- before reads are served, all of the console is the same
  pub taken : fed (fed s a) b ≡ fed s (a ++ b)
  -- with reads that are served behind each Feed: the bytes that are no key yet, and the buttons that are held
  pub held : (run s (in_two a b)).held ≡ (run s (in_one a b)).held
  pub buttons : (run s (in_two a b)).buttons ≡ (run s (in_one a b)).buttons
  -- the records that arrive, but for the places of the mouse; with these too where no line is read
  pub records : map unplaced (arrived s (in_two a b)) ≡ map unplaced (arrived s (in_one a b))
  pub places : s.noted ≡ [] → arrived s (in_two a b) ≡ arrived s (in_one a b)
  -- all of the console, where no read waits for records, and the link has not ended
  pub whole : AreDone s.reads → s.drained ≡ false → run s (in_two a b) ≡ run s (in_one a b)
  -- and where line reads alone wait, and no report of the mouse is asked for
  pub lines : AreLines s.reads → has_bit s.mode 0x10 ≡ false → s.drained ≡ false → run s (in_two a b) ≡ run s (in_one a b)
