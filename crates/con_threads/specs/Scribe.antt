-- An actor at the console in the lock: what was entered there, as far as it has seen it.
use Rattle.std.specs.Prelude.{◌≡◌, ◌==◌, Bool, true, false, not, List, [], ◌∷◌, ◌++◌, Some}
use Rattle.std.specs.List.{list_all}
use Rattle.con_book.specs.History.{StartsWith, own}
use Rattle.con_book.specs.Passes.{view_of, actor_of, seen, IsSamePass}
use Rattle.con_events.specs.declared.actor.Actor.{Actor}
use Rattle.con_events.specs.declared.actor.Actor.TheVariants as actors
use Rattle.con_events.specs.declared.entry.Entry.{Entry}
use Rattle.con_events.specs.declared.event.Event.{Event}
use Rattle.con_machine.specs.History.{run, is_legal}
use Rattle.con_machine.specs.Numbered as numbers
use Rattle.con_machine.specs.State.{State}
use Rattle.con_machine.specs.Step.{step, is_ready}
use Rattle.con_actors.specs.Words.Desk.{brief_of, entry}
use Rattle.con_threads.specs.Ledger.{logged_entries, brief_told, TellsPicture}
use Rattle.con_threads.specs.declared.ledger.Told.{Told}
use Rattle.con_threads.specs.declared.scribe.Scribe.{Scribe}

abbrev pub is_same : Actor → Actor → Bool
is_same (actors.Client p) (actors.Client q) = p == q
is_same actors.Terminal actors.Terminal = true
is_same actors.Painter actors.Painter = true
is_same _ _ = false

-- the state that the console began with
abbrev pub opened : Scribe → State
opened s = (view_of s.pass).start.state

-- the entries that it has seen, oldest first; each was ready where it stands
abbrev pub history : Scribe → List Entry
history s = logged_entries (opened s) (seen s.pass)

-- what a scribe always is
pub record IsScribe (s : Scribe) : Type 0 where
  pub named : numbers.actor_of (actor_of s.pass) ≡ Some s.actor
  pub single : (view_of s.pass).opens ≡ false
  pub own_mine : own (actor_of s.pass) (seen s.pass) ≡ (view_of s.pass).mine
  pub none_before : (view_of s.pass).start.replies ≡ []

-- the same scribe, which may have seen more
pub record IsSameScribe (old new : Scribe) : Type 0 where
  pub pass : IsSamePass old.pass new.pass
  pub actor : new.actor ≡ old.actor
  pub more : StartsWith (seen new.pass) (seen old.pass)

-- more was seen, nothing of it this actor's
pub record SeesMore (start : State) (actor : Actor) (h g : List Entry) : Type 0 where
  pub between : List Entry
  pub others : list_all (λ x. not (is_same actor x.actor)) between ≡ true
  pub legal : is_legal (run start h) between ≡ true
  pub entries' : g ≡ h ++ between

-- more was seen, and then its own event was entered, and it was told this
pub record HasEntered (start : State) (actor : Actor) (event : Event) (told : Told) (h g : List Entry) : Type 0 where
  pub between : List Entry
  pub others : list_all (λ x. not (is_same actor x.actor)) between ≡ true
  pub legal : is_legal (run start h) between ≡ true
  pub entries' : g ≡ (h ++ between) ++ entry actor event ∷ []
  pub ready : is_ready (run start (h ++ between)) actor event ≡ true
  pub brief : brief_told told ≡ brief_of (step (run start (h ++ between)) actor event).reply
  pub tells : TellsPicture told (run start (h ++ between)) (Some actor) event
