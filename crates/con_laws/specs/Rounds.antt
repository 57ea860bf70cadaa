-- Turns by rounds: the terminal's side, each client by its number, the painter, and again, until nobody acts.
use Rattle.std.specs.Prelude.{map, IsTrue, ◌≡◌, ◌⊎◌, ℕ, ◌<◌, ◌&&◌, nat_le, Bool, true, false, not, List, [], ◌∷◌, ◌++◌, length, Option, Some, None}
use Rattle.std.specs.Prelude.{if◌then◌else◌}
use Rattle.con_events.specs.Session.{Clients}
use Rattle.con_events.specs.declared.actor.Actor.{Actor}
use Rattle.con_events.specs.declared.actor.Actor.TheVariants as actors
use Rattle.con_events.specs.declared.end.End.{End}
use Rattle.con_events.specs.declared.end.End.TheVariants as ends
use Rattle.con_events.specs.declared.entry.Entry.{Entry}
use Rattle.con_events.specs.declared.event.Event.{Event}
use Rattle.con_events.specs.declared.event.Event.TheVariants as events
use Rattle.con_procs.specs.Procs.{is_attached}
use Rattle.con_readers.specs.Reads.{is_open, has_done}
use Rattle.con_machine.specs.State.{State}
use Rattle.con_machine.specs.Step.{is_ready}
use Rattle.con_machine.specs.History.{run}
use Rattle.con_machine.specs.Client.{Client, Stance, GoesOn, MayLeave, MustLeave, client_after, ctrl_exit, next_event}
use Rattle.con_machine.specs.Turns.{turns, sent, has_ended, paints, is_pending}
use Rattle.con_machine.specs.Follows.{is_lost, steps_of, kinds_of}
use Rattle.std.specs.List.{list_all, flat_map, range_with_len, AllByRecursion}
use Rattle.std.specs.Option.{option_map_or, is_some, is_none}

-- what a session began with, and from which Paint on the terminal counts as failed
pub record Begun : Type 0 where
  pub state : State
  pub session : Clients
  pub racks : List (List ℕ)
  pub failed : Option ℕ

-- the turns of a round of n clients
abbrev pub order : ℕ → List Actor
order n = actors.Terminal ∷ (map (λ p. actors.Client p) (range_with_len 1 n) ++ actors.Painter ∷ [])

-- ---- what an actor does in its turn: it enters an event, or nothing

-- after so many Paints the terminal counts as failed
abbrev pub has_failed : Begun → List Entry → Bool
has_failed b h = option_map_or (λ k. nat_le k (paints h)) b.failed false

-- The terminal's side enters the event of one frame; once the terminal failed, a Hangup. Behind a Hangup or Drained it does nothing.
abbrev pub SideTurn : Bool → Bool → Option Event → Type 0
SideTurn true failed t = t ≡ None
SideTurn false true t = t ≡ Some events.Hangup
SideTurn false false t = IsTrue (is_some t)

-- The first of these: a control event that is pending is taken; a read that is open is collected where it is done, and
-- else the client waits; the next step; behind the last one the exit.
abbrev pub client_turn : State → ℕ → Client → Option Event
client_turn s p c =
    if is_pending s p then Some events.TakeCtrl
    else if is_open s.reads p then (if has_done s.reads p then Some events.Collect else None)
    else Some (next_event c.left)

-- before these, the exit by a control event; a client that is not attached, or has left, does nothing
abbrev pub ClientTurn : Bool → Stance → Option Event → Option Event → Type 0
ClientTurn true GoesOn first t = t ≡ first
ClientTurn true MayLeave first t = (t ≡ Some (events.Exit ctrl_exit)) ⊎ (t ≡ first)
ClientTurn true MustLeave first t = t ≡ Some (events.Exit ctrl_exit)
ClientTurn _ _ first t = t ≡ None

-- what client p was after a history
abbrev pub client_at : Begun → List Entry → ℕ → Client
client_at b h p = client_after (steps_of b.session p) (kinds_of b.racks p) (turns b.state p h)

-- the turn of an actor after a history; the painter paints where a Paint is ready and the terminal has not failed
abbrev pub IsTurn : Begun → List Entry → Actor → Option Event → Type 0
IsTurn b h actors.Terminal t = SideTurn (has_ended false (sent h)) (has_failed b h) t
IsTurn b h (actors.Client p) t = let s = run b.state h in ClientTurn (is_attached s.procs p) (client_at b h p).stance (client_turn s p (client_at b h p)) t
IsTurn b h actors.Painter t = t ≡ (if not (has_failed b h) && is_ready (run b.state h) actors.Painter events.Paint then Some events.Paint else None)

-- ---- rounds

-- From a history on the actors have these turns one after another, and with what they enter it becomes the second history. Actors at the end may have no turn.
abbrev pub AreTurns : Begun → List Entry → List Actor → List (Option Event) → List Entry → Type 0
AreTurns b h by [] g = g ≡ h
AreTurns b h [] (t ∷ ts) g = ⊥
AreTurns b h (a ∷ by) (None ∷ ts) g = IsTurn b h a None × AreTurns b h by ts g
AreTurns b h (a ∷ by) (Some e ∷ ts) g = IsTurn b h a (Some e) × AreTurns b (h ++ (let x : Entry = record { actor = a; event = e } in x) ∷ []) by ts g

abbrev pub is_memory : End → Bool
is_memory ends.Memory = true
is_memory _ = false

-- A history, begun in a state, is a sequence of rounds of the session's clients, up to this end.
pub record Rounds (s : State) (h : List Entry) (session : Clients) (racks : List (List ℕ)) (end : End) : Type 0 where
  -- the terminal may count as failed from the last of so many Paints on, where it may be lost
  pub failed : Option ℕ
  pub fails : (k : ℕ) → failed ≡ Some k → (is_lost end ≡ true) × (0 < paints h) × (k ≡ paints h)
  -- whole rounds, in each of which each actor has a turn and somebody acts, and the last one, in which nobody does; for want of memory it may break off
  pub rounds : List (List (Option Event))
  pub last : List (Option Event)
  pub each : AllByRecursion (λ one. (length one ≡ length (order (length session.scripts))) × (list_all is_none one ≡ false)) rounds
  pub none : is_memory end ≡ false → (length last ≡ length (order (length session.scripts))) × (list_all is_none last ≡ true)
  pub turns_are : AreTurns (record { state = s; session = session; racks = racks; failed = failed }) []
      (flat_map (λ one. order (length session.scripts)) rounds ++ order (length session.scripts)) (flat_map (λ one. one) rounds ++ last) h
