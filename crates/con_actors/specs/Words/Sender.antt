-- The words of the code and of laws about Sender, which a reader need not believe.
use Rattle.std.specs.Prelude.{◌≡◌, ◌⊎◌, ℕ, Bool, true, false, List, [], ◌∷◌, ◌++◌, Option, Some, None, Result, Ok, Err, map, flat_map, length, ◌≤◌}
use Rattle.std.specs.List.{list_all}
use Rattle.con_units.specs.declared.code.OutOfMemory.{OutOfMemory}
use Rattle.con_units.specs.declared.view.Frame.{Frame}
use Rattle.con_outside.specs.Outside.{then_left}
use Rattle.con_link.specs.Frames.{ends_link}
use Rattle.con_link.specs.LinkReading.{LinkReading, plainly, AnswersBy, IsLinkBy, all_go_on}
use Rattle.con_link.specs.declared.fault.LinkFault.{LinkFault}
use Rattle.con_link.specs.declared.fault.LinkFault.TheVariants as faults
use Rattle.con_events.specs.declared.actor.Actor.TheVariants as actors
use Rattle.con_events.specs.declared.end.End.{End}
use Rattle.con_events.specs.declared.end.End.TheVariants as ends
use Rattle.con_events.specs.declared.entry.Entry.{Entry}
use Rattle.con_events.specs.declared.event.Event.{Event}
use Rattle.con_events.specs.declared.event.Event.TheVariants as events
use Rattle.con_events.specs.declared.reply.Reply.{Reply}
use Rattle.con_machine.specs.Words.Along.{after}
use Rattle.con_machine.specs.Follows.{FollowsLink, sent_one, sent_by, is_cut}
use Rattle.con_laws.specs.Rounds.{Begun}
use Rattle.con_laws.specs.RoundWords.{IsTurn, is_failed}
use Rattle.con_machine.specs.State.{State}
use Rattle.con_machine.specs.Step.{is_ready}
use Rattle.con_machine.specs.Turns.{sent, has_ended}
use Rattle.con_actors.specs.Words.Desk.{Enters, Rests}
use Rattle.con_actors.specs.Sender.{TakesBehind}
use Rattle.con_actors.specs.declared.side.Side.{Side}

-- how a session ends where no frame was read
abbrev pub end_for : LinkFault → End
end_for faults.Failed = ends.Link
end_for faults.TooLong = ends.TooLong
end_for (faults.Bad place kind) = ends.Bad place kind
end_for faults.OutOfMemory = ends.Memory

-- after so many Paints the terminal counts as failed from the last of them on, or not yet
abbrev pub FailsBy : Bool → Option ℕ → ℕ → Type 0
FailsBy false f painted = is_failed f painted ≡ false
FailsBy true f painted = f ≡ Some painted

-- a hangup that is no frame
abbrev pub hung : Bool → List Event
hung false = []
hung true = events.Hangup ∷ []

-- the terminal's side sent these frames, whatever comes behind them; and perhaps a Hangup that is none
pub record SideStands (h : List Entry) (coming : List Frame) (cut ended : Bool) : Type 0 where
  pub follows : (c : Bool) → (cut ≡ true → c ≡ true) → (more : List Frame) → FollowsLink c (coming ++ more) (sent h)
  pub after' : ended ≡ false → (more : List Frame)
      → after sent_one (record { coming = coming ++ more; ended = false }) (sent h) ≡ record { coming = more; ended = false }
  pub ended' : has_ended false (sent h) ≡ ended
  pub all' : sent h ≡ map sent_by coming ++ hung cut

-- ---- the link, in either way of reading it

-- what was read of the link, and why no more is; and what more is known of the frames that were read
pub record LinkBy (R : LinkReading) (More : List R.One → List Entry → Type 0) (h : List Entry) (side : Side) (failed : Bool)
    (before now : Option (List ℕ)) (taken : ℕ) : Type 0 where
  pub frames : List R.One
  pub extra : List ℕ
  pub cut : Bool
  pub stands : SideStands h (R.plains frames) cut side.ended
  pub frames' : list_all R.is_one frames ≡ true
  pub read : before ≡ then_left (flat_map R.spelling frames ++ extra) now
  pub open' : side.ended ≡ false → all_go_on R frames ≡ true
  pub place : side.ended ≡ false → (extra ≡ []) × (taken ≡ length (flat_map R.spelling frames)) × (cut ≡ false) × (taken ≤ 16777216) × (is_cut side.end ≡ false)
  pub why : cut ≡ true → (all_go_on R frames ≡ true) × ((failed ≡ true) ⊎ (is_cut side.end ≡ true))
  -- a fault that shows behind the frames
  pub fault : is_cut side.end ≡ true
      → (f : LinkFault) × (cut ≡ true) × (side.end ≡ end_for f) × AnswersBy R (Err f) (length (flat_map R.spelling frames)) extra now
  -- the last frame ends the link
  pub whole : cut ≡ false → side.ended ≡ true → IsLinkBy R frames now × (extra ≡ []) × (length (flat_map R.spelling frames) ≤ 16777216)
  pub behind : TakesBehind R frames extra now
  pub more : More frames h

-- what is known of it where there is no memory
pub record LinkEndsBy (R : LinkReading) (More : List R.One → List Entry → Type 0) (h : List Entry) (before now : Option (List ℕ)) : Type 0 where
  pub frames : List R.One
  pub extra : List ℕ
  pub cut : Bool
  pub ended : Bool
  pub stands : SideStands h (R.plains frames) cut ended
  pub frames' : list_all R.is_one frames ≡ true
  pub read : before ≡ then_left (flat_map R.spelling frames ++ extra) now
  pub going : (all_go_on R frames ≡ true) ⊎ IsLinkBy R frames now
  pub behind : TakesBehind R frames extra now
  pub more : More frames h

-- of the frames of a link with no second terminal nothing more is known
abbrev pub NoMore : List Frame → List Entry → Type 0
NoMore frames h = Unit {0}

abbrev pub LinkIs : List Entry → Side → Bool → Option (List ℕ) → Option (List ℕ) → ℕ → Type 0
LinkIs h side failed before now taken = LinkBy plainly NoMore h side failed before now taken

abbrev pub LinkEnds : List Entry → Option (List ℕ) → Option (List ℕ) → Type 0
LinkEnds h before now = LinkEndsBy plainly NoMore h before now

-- what a turn of the terminal's side leaves of the link
abbrev pub LinkTurnBy : (R : LinkReading) (More Then : List R.One → List Entry → Type 0)
    → Result Bool OutOfMemory → List Entry → Side → Bool → Option (List ℕ) → Option (List ℕ) → ℕ → Type 0
LinkTurnBy R More Then (Ok acted) h side failed before now taken = LinkBy R More h side failed before now taken
LinkTurnBy R More Then (Err e) h side failed before now taken = LinkEndsBy R Then h before now

abbrev pub LinkTurn : Result Bool OutOfMemory → List Entry → Side → Bool → Option (List ℕ) → Option (List ℕ) → ℕ → Type 0
LinkTurn result h side failed before now taken = LinkTurnBy plainly NoMore NoMore result h side failed before now taken

-- what was read, as every link has it
abbrev pub plain_of : (R : LinkReading) → Result R.One LinkFault → Result Frame LinkFault
plain_of R (Ok f) = Ok (R.plain f)
plain_of R (Err e) = Err e

-- what the terminal's side enters for what was read of the link: the event of a frame, or a hangup where no frame was read; where there is no memory nothing
abbrev pub Hears : Result Bool OutOfMemory → Result Frame LinkFault → Side → Side → State → State → List Entry → List Entry → List Reply → List Reply → Type 0
Hears (Ok acted) (Ok frame) was side s t h g rs qs = (acted ≡ true) × Enters s t h g rs qs actors.Terminal (sent_by frame)
    × (side ≡ record { ended = ends_link frame; end = was.end })
Hears (Ok acted) (Err fault) was side s t h g rs qs = (acted ≡ true) × Enters s t h g rs qs actors.Terminal events.Hangup
    × (side ≡ record { ended = true; end = end_for fault })
Hears (Err e) read was side s t h g rs qs = Rests s t h g rs qs × (side ≡ was)

-- an event of the terminal's side was entered
pub record Sends (b : Begun) (s t : State) (h g : List Entry) (rs qs : List Reply) : Type 0 where
  pub event : Event
  pub enters : Enters s t h g rs qs actors.Terminal event
  pub ready : is_ready s actors.Terminal event ≡ true
  pub turn : IsTurn b h actors.Terminal (Some event)

-- a turn of the terminal's side: false where it has ended; where there is no memory nothing was entered
abbrev pub SenderTurn : Result Bool OutOfMemory → Begun → State → State → List Entry → List Entry → List Reply → List Reply → Type 0
SenderTurn (Ok true) b s t h g rs qs = Sends b s t h g rs qs
SenderTurn (Ok false) b s t h g rs qs = Rests s t h g rs qs × IsTurn b h actors.Terminal None
SenderTurn (Err e) b s t h g rs qs = Rests s t h g rs qs
