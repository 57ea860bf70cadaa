-- What a session's end has of a second terminal.
use Rattle.std.specs.Prelude.{◌≡◌, ◌⊎◌, ℕ, ◌+◌, Bool, false, List, ◌∷◌, length, take, Option}
use Rattle.std.specs.List.{zip, AllByRecursion}
use Rattle.con_units.specs.declared.place.Size.{Size}
use Rattle.con_outside.specs.Outside.{then_written, WroteFront}
use Rattle.con_link.specs.LinkReading.{mirrored}
use Rattle.con_link.specs.declared.mirror.MirrorFrame.{MirrorFrame}
use Rattle.con_events.specs.Session.{Clients}
use Rattle.con_events.specs.declared.end.End.{End}
use Rattle.con_events.specs.declared.entry.Entry.{Entry}
use Rattle.con_events.specs.declared.reply.Reply.{Reply}
use Rattle.con_machine.specs.Follows.{session_start}
use Rattle.con_laws.specs.Rounds.{is_memory}
use Rattle.con_machine.specs.State.{State}
use Rattle.con_machine.specs.Turns.{paints}
use Rattle.con_actors.specs.Seconds.{seconds_of, flags_of, picked}
use Rattle.con_actors.specs.Outcome.{IsOutcomeBy, last_end}
use Rattle.con_laws.specs.TerminalRuns.{EachRun, ShowsView}
use Rattle.con_actors.specs.Runs.{PrintsFew}

-- The stream that was built, of which a front was written, and what the terminal shows of it in every run. Its sink may have failed, or there
-- was no memory.
pub record Mirrors (s : State) (frames : List MirrorFrame) (size : Size) (es : List ℕ) (before now : Option (List ℕ))
    (failed memory : Bool) (h : List Entry) : Type 0 where
  pub built : List ℕ
  -- as many bytes as the last end says, of which a front was written, and all unless the sink failed or there was no memory
  pub long : length built ≡ last_end es
  pub front : WroteFront built before now
  pub all' : failed ≡ false → memory ≡ false → now ≡ then_written before built
  -- each Paint has its end; for want of memory the last one may have none; at a Paint that is not mirrored the stream does not grow
  pub ends' : memory ≡ false → length es ≡ paints h
  pub but_last : (length es ≡ paints h) ⊎ (length es + 1 ≡ paints h)
  pub rests : AllByRecursion (λ p. p.0 ≡ false → p.1.1 ≡ p.1.0) (zip (flags_of frames s h) (zip (0 ∷ es) es))
  -- in every run that begins at an A with any terminal of its size each mirrored Paint shows its part and prints no more than it has to,
  -- as far as bytes were written
  pub shows : (n : ℕ) → EachRun ShowsView size (take n built) (seconds_of frames s h) (picked (flags_of frames s h) es)
  pub few : (n : ℕ) → EachRun PrintsFew size (take n built) (seconds_of frames s h) (picked (flags_of frames s h) es)

-- ---- the outcome

-- Of a session by turns with a second terminal: all that is promised of one without, where A and D count as Ask; and the second terminal's stream,
-- with its ends, whether its sink failed, and what was written to it before and after.
abbrev pub IsMirrorOutcome : Clients → List (List ℕ) → List Entry → List Reply → List ℕ → End → List ℕ → Bool → Option (List ℕ) → Option (List ℕ)
    → Option (List ℕ) → Option (List ℕ) → Option (List ℕ) → Option (List ℕ) → Type 0
IsMirrorOutcome session racks h rs es end seconds lost before left old now was written = IsOutcomeBy mirrored
    (λ frames g. Mirrors (session_start session racks) frames session.size seconds was written lost (is_memory end) g) session racks h rs es end
    before left old now
