-- The thread of the terminal's side.
use Rattle.std.specs.Prelude.{◌≡◌, ℕ, ◌≤◌, Bool, true, false, not, List, [], ◌∷◌, ◌++◌, Option}
use Rattle.std.specs.List.{list_all}
use Rattle.con_events.specs.declared.actor.Actor.TheVariants as actors
use Rattle.con_events.specs.declared.entry.Entry.{Entry}
use Rattle.con_events.specs.declared.event.Event.{Event}
use Rattle.con_machine.specs.History.{run, is_legal}
use Rattle.con_laws.specs.Rounds.{Begun}
use Rattle.con_machine.specs.State.{State}
use Rattle.con_actors.specs.Words.Desk.{entry}
use Rattle.con_actors.specs.Words.Sender.{LinkIs, LinkEnds}
use Rattle.con_actors.specs.Solo.{AsksStand}
use Rattle.con_actors.specs.declared.side.Side.{Side}
use Rattle.con_threads.specs.Scribe.{IsScribe, IsSameScribe, history, is_same, opened}
use Rattle.con_threads.specs.declared.side.SideThread.{SideThread}

-- The terminal's side, as far as its thread has seen the history: what it read of the link and sent, and that what was asked for was painted
-- before it went on. `hung`: it hung up since the terminal had failed. `broken`: it had no memory, perhaps behind bytes that it took.
pub record SideGoes (b : Begun) (h : List Entry) (side : Side) (hung broken : Bool) (before left : Option (List ℕ)) (taken : ℕ) : Type 0 where
  pub link : broken ≡ false → LinkIs h side hung before left taken
  pub link_ends : LinkEnds h before left
  pub asks : AsksStand b h hung

-- the same of a thread, by what its scribe has seen
abbrev pub ThreadGoes : Begun → SideThread → Option (List ℕ) → Option (List ℕ) → Type 0
ThreadGoes b t before left = SideGoes b (history t.scribe) t.side t.hung t.broken before left t.reader

-- what such a thread always is
pub record IsSideThread (t : SideThread) : Type 0 where
  pub scribe : IsScribe t.scribe
  pub actor : t.scribe.actor ≡ actors.Terminal
  pub few : t.side.ended ≡ false → t.broken ≡ false → t.reader ≤ 16777216

-- More was seen, nothing of the terminal's side, and then its own event was entered.
pub record IsSending (start : State) (event : Event) (h g : List Entry) : Type 0 where
  pub between : List Entry
  pub others : list_all (λ x. not (is_same actors.Terminal x.actor)) between ≡ true
  pub legal : is_legal (run start h) between ≡ true
  pub entries' : g ≡ (h ++ between) ++ entry actors.Terminal event ∷ []

-- A thread sent on, over a link of which this was left before, and is now.
pub record HasSentOn (old new : SideThread) (was left : Option (List ℕ)) : Type 0 where
  pub same : IsSameScribe old.scribe new.scribe
  pub is : IsSideThread new
  pub goes : (b : Begun) (before : Option (List ℕ)) → opened old.scribe ≡ b.state → ThreadGoes b old before was → ThreadGoes b new before left
