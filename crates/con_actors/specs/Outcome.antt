-- What a session leaves behind: what is promised of its history and answers, of the bytes of its terminal, and of its link; and of one by turns, its rounds.
use Rattle.std.specs.Prelude.{◌≡◌, ◌⊎◌, ℕ, ◌+◌, ◌≤◌, true, false, List, [], ◌∷◌, ◌++◌, map, flat_map, fold, length, take, Option, Err}
use Rattle.std.specs.List.{list_all}
use Rattle.con_outside.specs.Outside.{then_left, then_written, WroteFront}
use Rattle.con_link.specs.LinkReading.{LinkReading, plainly, AnswersBy, IsLinkBy, all_go_on}
use Rattle.con_link.specs.declared.fault.LinkFault.TheVariants as faults
use Rattle.con_events.specs.Session.{Clients}
use Rattle.con_events.specs.declared.end.End.{End}
use Rattle.con_events.specs.declared.end.End.TheVariants as ends
use Rattle.con_events.specs.declared.entry.Entry.{Entry}
use Rattle.con_events.specs.declared.event.Event.{Event}
use Rattle.con_events.specs.declared.event.Event.TheVariants as events
use Rattle.con_events.specs.declared.reply.Reply.{Reply}
use Rattle.con_machine.specs.Follows.{Follows, session_start, sent_by, is_lost}
use Rattle.con_machine.specs.History.{is_legal, replies_of}
use Rattle.con_laws.specs.Rounds.{Rounds, is_memory}
use Rattle.con_machine.specs.Sights.{sights_of}
use Rattle.con_machine.specs.Turns.{sent, has_ended, paints}
use Rattle.con_laws.specs.Whole.{IsWhole, HaveAllLeft}
use Rattle.con_actors.specs.Desk.{listed}
use Rattle.con_laws.specs.TerminalRuns.{EachRun, ShowsView}
use Rattle.con_actors.specs.Runs.{PrintsFew, PrintsNewRows}
use Rattle.con_actors.specs.Sender.{TakesBehind}

-- ---- the link

-- the terminal's side sent all frames, and then a hangup that is none of them
abbrev pub IsCutBy : (R : LinkReading) → List R.One → List Event → Type 0
IsCutBy R frames sent' = (all_go_on R frames ≡ true) × (sent' ≡ map sent_by (R.plains frames) ++ events.Hangup ∷ [])

-- What the terminal's side made of the link, by the session's end: of these frames, the bytes taken behind them and what is left.
-- At the end Done the frames are the link, to its end or to its X, and all were sent. Where the link failed, has too many bytes or no frame at a place,
-- the frames are those before that, and all were sent.
abbrev pub HasSentBy : (R : LinkReading) → End → List R.One → List ℕ → Option (List ℕ) → List Event → Type 0
HasSentBy R ends.Done frames text left sent' = IsLinkBy R frames left × (text ≡ []) × (length (flat_map R.spelling frames) ≤ 16777216)
    × (sent' ≡ map sent_by (R.plains frames))
HasSentBy R ends.Link frames text left sent' = IsCutBy R frames sent' × AnswersBy R (Err faults.Failed) (length (flat_map R.spelling frames)) text left
HasSentBy R ends.TooLong frames text left sent' = IsCutBy R frames sent' × AnswersBy R (Err faults.TooLong) (length (flat_map R.spelling frames)) text left
HasSentBy R (ends.Bad place kind) frames text left sent' =
    IsCutBy R frames sent' × AnswersBy R (Err (faults.Bad place kind)) (length (flat_map R.spelling frames)) text left
HasSentBy R _ frames text left sent' = Unit {0}

-- ---- the terminal

-- where the last frame ends in the stream
abbrev pub last_end : List ℕ → ℕ
last_end es = fold (λ before e. e) 0 es

-- ---- all of it

-- Of a session and the kinds of its racks' handlers (0 for one that was asked before, or that tells nothing): the history, its answers, the ends of the frames
-- and the session's end, what the link had left before and after, and what was written to the terminal before and after.
-- Its link is read in this way, and this is known of its frames besides.
pub record LeavesBy (R : LinkReading) (More : List R.One → List Entry → Type 0) (session : Clients) (racks : List (List ℕ)) (h : List Entry)
    (rs : List Reply) (es : List ℕ) (end : End) (before left old now : Option (List ℕ)) : Type 0 where
  -- each event is ready where it stands, and was answered as the one console answers it
  pub legal : is_legal (session_start session racks) h ≡ true
  pub replies : rs ≡ map listed (replies_of (session_start session racks) h)
  -- the frames that were read, and the bytes taken behind them
  pub frames : List R.One
  pub text : List ℕ
  pub frames' : list_all R.is_one frames ≡ true
  pub taken : before ≡ then_left (flat_map R.spelling frames ++ text) left
  pub going : (all_go_on R frames ≡ true) ⊎ IsLinkBy R frames left
  pub behind : TakesBehind R frames text left
  pub side : HasSentBy R end frames text left (sent h)
  pub more : More frames h
  -- the history follows the session and these frames
  pub follows : Follows (session_start session racks) h session racks (R.plains frames) end
  -- the stream that was built, to its last end; the bytes written are a front of it: all of it, unless the terminal failed or there was no memory
  pub built : List ℕ
  pub long : length built ≡ last_end es
  pub front : WroteFront built old now
  pub all' : is_lost end ≡ false → now ≡ then_written old built
  -- each Paint has its end; for want of memory the last one may have none
  pub ends' : is_memory end ≡ false → length es ≡ paints h
  pub but_last : (length es ≡ paints h) ⊎ (length es + 1 ≡ paints h)
  -- in every terminal run of what was built, and of each front of it, each Paint shows its view and prints no more than it has to
  pub shows : (n : ℕ) → EachRun ShowsView session.size (take n built) (sights_of (session_start session racks) h) es
  pub few : (n : ℕ) → EachRun PrintsFew session.size (take n built) (sights_of (session_start session racks) h) es
  pub new_rows : (n : ℕ) → EachRun PrintsNewRows session.size (take n built) (sights_of (session_start session racks) h) es
  -- every client has left and the terminal's side has ended, unless there was no memory
  pub left' : is_memory end ≡ false → HaveAllLeft (session_start session racks) h session racks
  pub ended : is_memory end ≡ false → has_ended false (sent h) ≡ true
  -- and the terminal was shown all
  pub whole : is_lost end ≡ false → IsWhole (session_start session racks) h session racks

-- of a session with no second terminal
abbrev pub Leaves : Clients → List (List ℕ) → List Entry → List Reply → List ℕ → End → Option (List ℕ) → Option (List ℕ)
    → Option (List ℕ) → Option (List ℕ) → Type 0
Leaves session racks h rs es end before left old now = LeavesBy plainly (λ frames h. Unit {0}) session racks h rs es end before left old now

-- of a session by turns, besides: its history is rounds of these turns
pub record IsOutcomeBy (R : LinkReading) (More : List R.One → List Entry → Type 0) (session : Clients) (racks : List (List ℕ)) (h : List Entry)
    (rs : List Reply) (es : List ℕ) (end : End) (before left old now : Option (List ℕ)) : Type 0 where
  pub leaves : LeavesBy R More session racks h rs es end before left old now
  pub rounds : Rounds (session_start session racks) h session racks end

abbrev pub IsSoloOutcome : Clients → List (List ℕ) → List Entry → List Reply → List ℕ → End → Option (List ℕ) → Option (List ℕ)
    → Option (List ℕ) → Option (List ℕ) → Type 0
IsSoloOutcome session racks h rs es end before left old now = IsOutcomeBy plainly (λ frames h. Unit {0}) session racks h rs es end before left old now
