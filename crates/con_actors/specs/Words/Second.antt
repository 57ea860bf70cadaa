-- The words of the code and of laws about Second, which a reader need not believe.
use Rattle.std.specs.Prelude.{◌≡◌, ◌⊎◌, ℕ, ◌+◌, Bool, true, false, List, [], ◌∷◌, ◌++◌, length, take, Option, Some, None, Result, Ok, Err}
use Rattle.con_units.specs.Attr.{plain}
use Rattle.con_units.specs.declared.code.OutOfMemory.{OutOfMemory}
use Rattle.con_units.specs.declared.place.Size.{Size}
use Rattle.con_units.specs.declared.view.View.{View}
use Rattle.con_units.specs.declared.view.Sight.{Sight}
use Rattle.con_outside.specs.Outside.{then_written, WroteFront}
use Rattle.con_link.specs.LinkReading.{mirrored}
use Rattle.con_link.specs.declared.fault.LinkFault.{LinkFault}
use Rattle.con_link.specs.declared.mirror.MirrorFrame.{MirrorFrame}
use Rattle.con_link.specs.declared.mirror.MirrorFrame.TheVariants.{Plain, Attach, Detach}
use Rattle.con_term.specs.Terminal.{Terminal}
use Rattle.con_paint.specs.Painter.{Kept, Allows, unpainted}
use Rattle.con_mirror.specs.Mirror.{Mirrored, at_size}
use Rattle.con_events.specs.declared.actor.Actor.TheVariants as actors
use Rattle.con_events.specs.declared.entry.Entry.{Entry}
use Rattle.con_events.specs.declared.event.Event.TheVariants as events
use Rattle.con_machine.specs.Words.Along.{after}
use Rattle.con_machine.specs.State.{State}
use Rattle.con_machine.specs.Turns.{paints}
use Rattle.con_actors.specs.Watched.{watch, watched, Stays}
use Rattle.con_actors.specs.Watched as walked
use Rattle.con_actors.specs.Words.Desk.{entry}
use Rattle.con_actors.specs.Outcome.{last_end}
use Rattle.con_actors.specs.Painting.{IsTied, Written}
use Rattle.con_laws.specs.TerminalRuns.{EachRun, ShowsView}
use Rattle.con_actors.specs.Runs.{PrintsFew}
use Rattle.con_actors.specs.Words.Runs.{Painted, Matched, EachPiece, Reaches, joined, ends_from}
use Rattle.con_actors.specs.Words.Sender.{LinkBy}
use Rattle.con_actors.specs.Second.{Mirrors}
use Rattle.con_actors.specs.declared.desk.Picture.{Picture}
use Rattle.con_actors.specs.declared.side.Side.{Side}

-- what is known of a terminal that was reached at this attaching: the mirror allows it, and it shows what the mirror painted last
pub record Shown (k : Kept) (u : Terminal) (l : Option View) : Type 0 where
  pub allowed : Allows k u
  pub none : k.known ≡ false → l ≡ None
  pub some : k.known ≡ true → (old : View) × (l ≡ Some old) × (old.rows ≡ k.cells)

-- The sights of the second terminal have a piece each, and in every run each piece has what is claimed of its Paint.
pub record PiecesStand (ss : List Sight) (kept : Option Kept) (ps : List (List ℕ)) : Type 0 where
  pub matched : Matched ss ps
  pub each : (t : Terminal) → EachPiece Painted t None ss ps
  pub reach : (k : Kept) → kept ≡ Some k → (t u : Terminal) (l : Option View) → Reaches t None ss ps u l → Shown k u l

-- The second terminal with its mirror, behind a history whose terminal's side sent the events of these frames.
pub record SecondIs (s : State) (ended : Bool) (kept : Option Kept) (ps : List (List ℕ)) (es : List ℕ) (end : ℕ) (before now : Option (List ℕ))
    (failed : Bool) (frames : List MirrorFrame) (h : List Entry) : Type 0 where
  pub sights : List Sight
  pub flags : List Bool
  pub seconds : (more : List MirrorFrame) → walked.seconds_of (watch (frames ++ more)) s h ≡ sights
  pub flagged : (more : List MirrorFrame) → walked.flags_of (watch (frames ++ more)) h ≡ flags
  pub at : (more : List MirrorFrame) → (after watched (watch (frames ++ more)) h).at ≡ at_size kept
  pub coming : ended ≡ false → (more : List MirrorFrame) → (after watched (watch (frames ++ more)) h).coming ≡ more
  pub stands : PiecesStand sights kept ps
  pub written : Written before now ps failed
  pub count : length flags ≡ length es
  pub ends' : walked.picked flags es ≡ ends_from 0 ps
  pub rests : Stays 0 flags es
  pub last : last_end es ≡ end
  pub end' : end ≡ length (joined ps)

-- what a frame of the link makes of the mirror
abbrev pub kept_by : Option Kept → MirrorFrame → Option Kept
kept_by kept (Plain frame) = kept
kept_by kept (Attach z) = Some (unpainted z.w z.h)
kept_by kept Detach = None

-- what was read of the link makes of it
abbrev pub kept_behind : Option Kept → Result MirrorFrame LinkFault → Option Kept
kept_behind kept (Ok frame) = kept_by kept frame
kept_behind kept (Err fault) = kept

-- whatever its frames are
abbrev pub Seconded : State → Bool → Option Kept → List ℕ → ℕ → Option (List ℕ) → Option (List ℕ) → Bool → List MirrorFrame → List Entry → Type 0
Seconded s ended kept es end before now failed frames h = (ps : List (List ℕ)) × SecondIs s ended kept ps es end before now failed frames h

-- what Mirrors says, as it is walked
pub record Reflects (s : State) (frames : List MirrorFrame) (size : Size) (es : List ℕ) (before now : Option (List ℕ))
    (failed memory : Bool) (h : List Entry) : Type 0 where
  pub built : List ℕ
  -- as many bytes as the last end says, of which a front was written, and all unless the sink failed or there was no memory
  pub long : length built ≡ last_end es
  pub front : WroteFront built before now
  pub all' : failed ≡ false → memory ≡ false → now ≡ then_written before built
  -- each Paint has its end; for want of memory the last one may have none; at a Paint that is not mirrored the stream does not grow
  pub ends' : memory ≡ false → length es ≡ paints h
  pub but_last : (length es ≡ paints h) ⊎ (length es + 1 ≡ paints h)
  pub rests : Stays 0 (walked.flags_of (watch frames) h) es
  -- in every run that begins at an A with any terminal of its size each mirrored Paint shows its part and prints no more than it has to,
  -- as far as bytes were written
  pub shows : (n : ℕ) → EachRun ShowsView size (take n built) (walked.seconds_of (watch frames) s h) (walked.picked (walked.flags_of (watch frames) h) es)
  pub few : (n : ℕ) → EachRun PrintsFew size (take n built) (walked.seconds_of (watch frames) s h) (walked.picked (walked.flags_of (watch frames) h) es)

-- what the frame at a Paint is: the part's, where a terminal is attached, and else nothing
abbrev pub FrameOf : Option Kept → Option Kept → View → List ℕ → Type 0
FrameOf None new v bytes = (new ≡ None) × (bytes ≡ [])
FrameOf (Some k) new v bytes = (after : Kept) × (new ≡ Some after) × Mirrored k after v bytes

-- what was written of it: all, or a front where the sink failed, or nothing where it had failed
abbrev pub Wrote : Bool → Bool → List ℕ → Option (List ℕ) → Option (List ℕ) → Type 0
Wrote true failed bytes now later = (failed ≡ true) × (later ≡ now)
Wrote false true bytes now later = WroteFront bytes now later
Wrote false false bytes now later = later ≡ then_written now bytes

-- the second terminal behind a Paint
abbrev pub SecondTurn : Result (Unit {0}) OutOfMemory → State → Bool → Option Kept → List ℕ → ℕ → Option (List ℕ)
    → Option (List ℕ) → Bool → List MirrorFrame → List Entry → Type 0
SecondTurn (Ok u) s ended kept es end before now failed frames h = Seconded s ended kept es end before now failed frames h
SecondTurn (Err e) s ended kept es end before now failed frames h = (size : Size) → Mirrors s frames size es before now failed true h

-- the same behind a turn of the painter, in which this was painted
abbrev pub FollowTurn : Result Bool OutOfMemory → Option Picture → State → Bool → Option Kept → List ℕ → ℕ → Option (List ℕ)
    → Option (List ℕ) → Bool → List MirrorFrame → List Entry → Type 0
FollowTurn (Ok a) (Some p) s ended kept es end before now failed frames h =
    Seconded s ended kept es end before now failed frames (h ++ entry actors.Painter events.Paint ∷ [])
FollowTurn (Ok a) None s ended kept es end before now failed frames h = Seconded s ended kept es end before now failed frames h
FollowTurn (Err e) o s ended kept es end before now failed frames h = (size : Size)
    → Mirrors s frames size es before now failed true (h ++ entry actors.Painter events.Paint ∷ [])

-- ---- the view that was given last

-- behind a frame of the link it is the same, or a terminal was attached or detached
abbrev pub StaysGiven : Option View → Option View → Type 0
StaysGiven old new = (new ≡ old) ⊎ (new ≡ None)

-- behind a Paint it is this view, or no terminal is attached
abbrev pub IsGiven : View → Option View → Type 0
IsGiven v new = (new ≡ Some v) ⊎ (new ≡ None)

-- the same behind a turn of the painter
abbrev pub GivenBehind : Option Picture → Option View → Option View → Type 0
GivenBehind (Some p) old new = IsGiven p.view new
GivenBehind None old new = new ≡ old

-- what the painter would keep of a view at its size
abbrev pub kept_as : View → Kept
kept_as v = record { w = v.size.w; h = v.size.h; known = true; cells = v.rows; attr = plain 7; placed = false; x = 0; y = 0; visible = v.visible }

-- it is the view that was painted last, unless nothing was painted on a terminal of this size
abbrev pub IsFollowed : State → Option View → Type 0
IsFollowed s given = (last : View) → given ≡ Some last → IsTied s (kept_as last)

-- ---- the link, and the outcome

-- what was read of a link with a second terminal, and that terminal behind its frames
abbrev pub MirrorLinkIs : State → Option Kept → List ℕ → ℕ → Option (List ℕ)
    → Option (List ℕ) → Bool → List Entry → Side → Bool → Option (List ℕ) → Option (List ℕ) → ℕ → Type 0
MirrorLinkIs s kept es end written now lost h side failed before left taken =
    LinkBy mirrored (Seconded s side.ended kept es end written now lost) h side failed before left taken
