-- A history is whole: all have done what they do, and the terminal shows what there is.
use Rattle.std.specs.Prelude.{◌≡◌, ℕ, ◌<◌, ◌≤◌, Bool, true, false, List, ◌∷◌, ◌++◌, length}
use Rattle.std.specs.List.{list_any}
use Rattle.con_events.specs.Session.{Clients}
use Rattle.con_events.specs.declared.entry.Entry.{Entry}
use Rattle.con_events.specs.declared.event.Event.{Event}
use Rattle.con_events.specs.declared.event.Event.TheVariants as events
use Rattle.con_machine.specs.State.{State}
use Rattle.con_machine.specs.History.{run}
use Rattle.con_machine.specs.Painting.{view_now}
use Rattle.con_machine.specs.Turns.{turns, sent, has_ended, is_paint}
use Rattle.con_machine.specs.Client.{Gone, client_after}
use Rattle.con_machine.specs.Follows.{steps_of, kinds_of}

-- a Paint or a Resize
abbrev pub is_pictured : Event → Bool
is_pictured events.Paint = true
is_pictured (events.Resize size) = true
is_pictured _ = false

-- there is a Paint, no other one and no Resize stands behind it, and what it showed is what there is at the end
pub record ShowsAll (s : State) (h : List Entry) : Type 0 where
  pub front : List Entry
  pub last : Entry
  pub back : List Entry
  pub parts : h ≡ front ++ last ∷ back
  pub paint : is_paint last.event ≡ true
  pub none : list_any (λ x. is_pictured x.event) back ≡ false
  pub view : view_now (run s front) ≡ view_now (run s h)

-- every client has left: its last entry is an Exit; where its entries follow its script, this is one of its steps, or stands behind all of them, or was called
-- for by a control event
abbrev pub HaveAllLeft : State → List Entry → Clients → List (List ℕ) → Type 0
HaveAllLeft s h session racks = (p : ℕ) → 0 < p → p ≤ length session.scripts → (client_after (steps_of session p) (kinds_of racks p) (turns s p h)).stance ≡ Gone

-- every client has left, the terminal's side has ended, and the terminal shows all
pub record IsWhole (s : State) (h : List Entry) (session : Clients) (racks : List (List ℕ)) : Type 0 where
  pub clients : HaveAllLeft s h session racks
  pub ended : has_ended false (sent h) ≡ true
  pub shown : ShowsAll s h
