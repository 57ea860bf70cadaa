-- The words of the code and of laws about Desk, which a reader need not believe.
use Rattle.std.specs.Prelude.{◌≡◌, List, [], ◌∷◌, ◌++◌, map, Bool, true, false, not}
use Rattle.std.specs.List.{list_all}
use Rattle.con_events.specs.declared.actor.Actor.{Actor}
use Rattle.con_events.specs.declared.actor.Actor.TheVariants as actors
use Rattle.con_events.specs.declared.entry.Entry.{Entry}
use Rattle.con_events.specs.declared.event.Event.{Event}
use Rattle.con_events.specs.declared.reply.Reply.{Reply}
use Rattle.con_events.specs.declared.reply.Reply.TheVariants as replies
use Rattle.con_machine.specs.History.{run, replies_of, is_legal}
use Rattle.con_machine.specs.State.{State}
use Rattle.con_machine.specs.Step.{step}
use Rattle.con_actors.specs.Desk.{listed}
use Rattle.con_actors.specs.declared.desk.Brief.{Brief}
use Rattle.con_actors.specs.declared.desk.Brief.TheVariants as briefs

-- what a client looks at in a reply
abbrev pub brief_of : Reply → Brief
brief_of (replies.Fail code) = briefs.Refused
brief_of (replies.Ctrl event) = briefs.Ctrl event
brief_of _ = briefs.Fine

abbrev pub is_painter : Actor → Bool
is_painter (actors.Client p) = false
is_painter actors.Terminal = false
is_painter actors.Painter = true

abbrev pub entry : Actor → Event → Entry
entry actor event = record { actor = actor; event = event }

-- an entry was made
pub record Enters (s t : State) (h g : List Entry) (rs qs : List Reply) (actor : Actor) (event : Event) : Type 0 where
  pub state : t ≡ (step s actor event).after
  pub entries : g ≡ h ++ entry actor event ∷ []
  pub replies : qs ≡ rs ++ listed (step s actor event).reply ∷ []

-- nothing was
pub record Rests (s t : State) (h g : List Entry) (rs qs : List Reply) : Type 0 where
  pub state : t ≡ s
  pub entries : g ≡ h
  pub replies : qs ≡ rs

-- the console stands behind its history, which is legal, and its replies are there
pub record Stands (start s : State) (h : List Entry) (rs : List Reply) : Type 0 where
  pub state : s ≡ run start h
  pub replies : rs ≡ map listed (replies_of start h)
  pub legal : is_legal start h ≡ true

abbrev pub is_refused : Brief → Bool
is_refused briefs.Refused = true
is_refused briefs.Fine = false
is_refused (briefs.Ctrl event) = false

-- the console ran on over some entries, none of them the painter's
pub record Ran (s t : State) (h g : List Entry) : Type 0 where
  pub entries : List Entry
  pub after' : g ≡ h ++ entries
  pub state : t ≡ run s entries
  pub legal : is_legal s entries ≡ true
  pub others : list_all (λ x. not (is_painter x.actor)) entries ≡ true
