-- Turns by rounds, walked round by round, as the proofs go.
use Rattle.std.specs.Prelude.{◌≡◌, ◌⊎◌, ℕ, zero, suc, ◌+◌, ◌<◌, ◌&&◌, nat_le, Bool, true, false, not, List, [], ◌∷◌, ◌++◌, length, Option, Some, None}
use Rattle.std.specs.Prelude.{if◌then◌else◌}
use Rattle.std.specs.List.{list_all}
use Rattle.std.specs.Option.{is_none}
use Rattle.con_events.specs.Session.{Clients}
use Rattle.con_events.specs.declared.actor.Actor.{Actor}
use Rattle.con_events.specs.declared.actor.Actor.TheVariants as actors
use Rattle.con_events.specs.declared.end.End.{End}
use Rattle.con_events.specs.declared.entry.Entry.{Entry}
use Rattle.con_events.specs.declared.event.Event.{Event}
use Rattle.con_events.specs.declared.event.Event.TheVariants as events
use Rattle.con_procs.specs.Procs.{is_attached}
use Rattle.con_machine.specs.State.{State}
use Rattle.con_machine.specs.Step.{is_ready}
use Rattle.con_machine.specs.History.{run}
use Rattle.con_machine.specs.Client.{Client, Stance, GoesOn, MayLeave, MustLeave, Gone, ctrl_exit}
use Rattle.con_machine.specs.Turns.{sent, has_ended, paints}
use Rattle.con_machine.specs.Follows.{is_lost}
use Rattle.con_laws.specs.Rounds.{Begun, client_turn, client_at, is_memory}

-- ---- who acts, in which order

-- the clients k + 1 to k + n
abbrev pub clients_from : ℕ → ℕ → List Actor
clients_from k zero = []
clients_from k (suc n) = actors.Client (k + 1) ∷ clients_from (k + 1) n

-- the turns of a round of n clients
abbrev pub order : ℕ → List Actor
order n = actors.Terminal ∷ (clients_from 0 n ++ actors.Painter ∷ [])

-- ---- what an actor does in its turn: it enters an event, or nothing

-- after so many Paints the terminal counts as failed
abbrev pub is_failed : Option ℕ → ℕ → Bool
is_failed None painted = false
is_failed (Some k) painted = nat_le k painted

-- The terminal's side enters the event of one frame; once the terminal failed, a Hangup. Behind a Hangup or Drained it does nothing.
abbrev pub SideTurn : Bool → Bool → Option Event → Type 0
SideTurn true failed t = t ≡ None
SideTurn false true t = t ≡ Some events.Hangup
SideTurn false false None = ⊥
SideTurn false false (Some e) = Unit {0}

-- before these, the exit by a control event
abbrev pub ClientTurnBy : Stance → State → ℕ → Client → Option Event → Type 0
ClientTurnBy GoesOn s p c t = t ≡ client_turn s p c
ClientTurnBy MayLeave s p c t = (t ≡ Some (events.Exit ctrl_exit)) ⊎ (t ≡ client_turn s p c)
ClientTurnBy MustLeave s p c t = t ≡ Some (events.Exit ctrl_exit)
ClientTurnBy Gone s p c t = t ≡ None

-- a client that is not attached does nothing
abbrev pub ClientTurn : Bool → State → ℕ → Client → Option Event → Type 0
ClientTurn false s p c t = t ≡ None
ClientTurn true s p c t = ClientTurnBy c.stance s p c t

-- the painter paints where a Paint is ready and the terminal has not failed
abbrev pub painter_turn : State → Bool → Option Event
painter_turn s failed = if not failed && is_ready s actors.Painter events.Paint then Some events.Paint else None

-- the turn of an actor after a history
abbrev pub IsTurn : Begun → List Entry → Actor → Option Event → Type 0
IsTurn b h actors.Terminal t = SideTurn (has_ended false (sent h)) (is_failed b.failed (paints h)) t
IsTurn b h (actors.Client p) t = ClientTurn (is_attached (run b.state h).procs p) (run b.state h) p (client_at b h p) t
IsTurn b h actors.Painter t = t ≡ painter_turn (run b.state h) (is_failed b.failed (paints h))

-- ---- rounds

abbrev pub entry_of : Actor → Option Event → List Entry
entry_of a None = []
entry_of a (Some e) = (let x : Entry = record { actor = a; event = e } in x) ∷ []

-- what is entered in the turns of these actors
abbrev pub round_entries : List Actor → List (Option Event) → List Entry
round_entries (a ∷ rest) (t ∷ ts) = entry_of a t ++ round_entries rest ts
round_entries _ _ = []

-- the actors have these turns one after another, from a history on; where it may break off, the last of them may have none
abbrev pub AreTurns : Bool → Begun → List Entry → List Actor → List (Option Event) → Type 0
AreTurns broken b h [] [] = Unit {0}
AreTurns broken b h [] (t ∷ ts) = ⊥
AreTurns broken b h (a ∷ rest) [] = broken ≡ true
AreTurns broken b h (a ∷ rest) (t ∷ ts) = IsTurn b h a t × AreTurns broken b (h ++ entry_of a t) rest ts

abbrev pub is_nobody : List (Option Event) → Bool
is_nobody ts = list_all is_none ts

abbrev pub all_order : Begun → List Actor
all_order b = order (length b.session.scripts)

-- whole rounds from a history on, in each of which somebody acts
abbrev pub AreRounds : Begun → List Entry → List (List (Option Event)) → Type 0
AreRounds b h [] = Unit {0}
AreRounds b h (one ∷ more) = AreTurns false b h (all_order b) one × (is_nobody one ≡ false) × AreRounds b (h ++ round_entries (all_order b) one) more

-- what is entered in whole rounds
abbrev pub all_entries : List Actor → List (List (Option Event)) → List Entry
all_entries by [] = []
all_entries by (one ∷ more) = round_entries by one ++ all_entries by more

-- the last round: nobody acts in it; for want of memory it may break off
abbrev pub IsLast : Bool → Begun → List Entry → List (Option Event) → Type 0
IsLast false b h last = AreTurns false b h (all_order b) last × (is_nobody last ≡ true)
IsLast true b h last = AreTurns true b h (all_order b) last

-- the terminal may count as failed from the last of so many Paints on, where it may be lost
abbrev pub MayFail : Bool → ℕ → Option ℕ → Type 0
MayFail lost painted None = Unit {0}
MayFail lost painted (Some k) = (lost ≡ true) × (0 < painted) × (k ≡ painted)

-- A history, begun in a state, is a sequence of rounds of the session's clients, up to this end.
pub record Rounds (s : State) (h : List Entry) (session : Clients) (racks : List (List ℕ)) (end : End) : Type 0 where
  pub failed : Option ℕ
  pub fails : MayFail (is_lost end) (paints h) failed
  pub rounds : List (List (Option Event))
  pub last : List (Option Event)
  pub parts : h ≡ all_entries (order (length session.scripts)) rounds ++ round_entries (order (length session.scripts)) last
  pub turns_are : AreRounds (record { state = s; session = session; racks = racks; failed = failed }) [] rounds
  pub last_is : IsLast (is_memory end) (record { state = s; session = session; racks = racks; failed = failed })
      (all_entries (order (length session.scripts)) rounds) last
