-- What a door to a console tells: more was entered by others, and perhaps an event of the actor's own.
use Rattle.std.specs.Prelude.{◌≡◌, ℕ, true, Bool, not, List, [], ◌∷◌, ◌++◌}
use Rattle.std.specs.List.{list_all}
use Rattle.con_events.specs.declared.actor.Actor.{Actor}
use Rattle.con_events.specs.declared.entry.Entry.{Entry}
use Rattle.con_events.specs.declared.event.Event.{Event}
use Rattle.con_machine.specs.History.{run}
use Rattle.con_machine.specs.State.{State}
use Rattle.con_machine.specs.Step.{step, is_ready}
use Rattle.con_machine.specs.Turns.{is_client}
use Rattle.con_actors.specs.Words.Desk.{brief_of, entry}
use Rattle.con_actors.specs.declared.desk.Brief.{Brief}

-- each of these entries is another's than client p's
abbrev pub are_others : ℕ → List Entry → Bool
are_others p ks = list_all (λ x. not (is_client p x.actor)) ks

-- more was entered
pub record Saw (May : List Entry → Type 0) (h g : List Entry) : Type 0 where
  pub between : List Entry
  pub may : May between
  pub entries' : g ≡ h ++ between

-- more was entered, and then an event of its own, which was ready there; this is what a client looks at in the reply
pub record Entered (May : List Entry → Type 0) (s : State) (a : Actor) (e : Event) (brief : Brief) (h g : List Entry) : Type 0 where
  pub between : List Entry
  pub may : May between
  pub entries' : g ≡ (h ++ between) ++ entry a e ∷ []
  pub ready : is_ready (run s (h ++ between)) a e ≡ true
  pub brief' : brief ≡ brief_of (step (run s (h ++ between)) a e).reply
