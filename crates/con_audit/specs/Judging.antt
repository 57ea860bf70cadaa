-- The code's own words: what is known behind the entries of an audit, in parts, and what is found of one entry more.
use Rattle.std.specs.Prelude.{◌≡◌, ◌⊎◌, ℕ, ◌-◌, ◌<◌, ◌≤◌, ◌&&◌, Bool, true, false, List, [], ◌∷◌, ◌++◌, length, get_or, set, Option, Some, None}
use Rattle.con_units.specs.declared.view.Frame.{Frame}
use Rattle.con_events.specs.declared.actor.Actor.{Actor}
use Rattle.con_events.specs.declared.actor.Actor.TheVariants as actors
use Rattle.con_events.specs.declared.entry.Entry.{Entry}
use Rattle.con_events.specs.declared.event.Event.{Event}
use Rattle.con_events.specs.declared.event.Event.TheVariants as events
use Rattle.con_events.specs.declared.reply.Reply.{Reply}
use Rattle.con_events.specs.declared.reply.Reply.TheVariants as replies
use Rattle.con_machine.specs.Client as client
use Rattle.con_machine.specs.Client.{Client, MayBy, starting, moved_on}
use Rattle.con_machine.specs.Follows.{is_one_of, MaySend, sent_one, asks_by}
use Rattle.con_machine.specs.Marks.{told}
use Rattle.con_machine.specs.Painting.{view_now}
use Rattle.con_machine.specs.State.{State}
use Rattle.con_machine.specs.Step.{step, is_ready, is_clients}
use Rattle.con_machine.specs.Turns.{is_paint}
use Rattle.con_audit.specs.Audit.{Given, parts}
use Rattle.con_audit.specs.OneMore.{Keeps, state_after, client_now, sender_after, asks_after, watch_after}
use Rattle.con_audit.specs.Side.{Side}
use Rattle.con_audit.specs.Track.{turn}
use Rattle.con_audit.specs.Watching.{Watch, EndsIn}
use Rattle.con_audit.specs.declared.verdict.What.{What}

-- ---- clients by their numbers, from 1 on

abbrev pub client_at : List Client → ℕ → Client
client_at tracks p = get_or tracks (p - 1) (starting [] [])

-- there are so many, and each is as `is` says of its number
pub record AreTracks (n : ℕ) (is : ℕ → Client) (tracks : List Client) : Type 0 where
  pub count : length tracks ≡ n
  pub each : (p : ℕ) → 0 < p → p ≤ n → client_at tracks p ≡ is p

abbrev pub is_gone : client.Stance → Bool
is_gone client.GoesOn = false
is_gone client.MayLeave = false
is_gone client.MustLeave = false
is_gone client.Gone = true

abbrev pub all_gone : List Client → Bool
all_gone [] = true
all_gone (c ∷ cs) = is_gone c.stance && all_gone cs

-- ---- behind the entries so far

abbrev pub side_after : List Frame → List Entry → Side
side_after frames h = record { sender = sender_after frames h; asked = asks_after h }

-- the console, the clients, the terminal's side and the partial terminal are what these entries make of them
pub record Stands (s : State) (tracks : List Client) (side : Side) (watch : Watch) (g : Given) (frames : List Frame) (h : List Entry) : Type 0 where
  pub console : s ≡ state_after g h
  pub clients : AreTracks (length g.session.scripts) (client_now g h) tracks
  pub side' : side ≡ side_after frames h
  pub watch' : watch ≡ watch_after g h

-- ---- what one entry more is compared with

-- of a Paint nothing is said
abbrev pub IsSaid : Event → Reply → Reply → Type 0
IsSaid e answer r = (is_paint e ≡ true) ⊎ (r ≡ answer)

abbrev pub MayStand : List Client → Side → Actor → Event → Type 0
MayStand tracks side (actors.Client p) e = (is_one_of (length tracks) (actors.Client p) ≡ true) × MayBy (client_at tracks p).stance (client_at tracks p) e
MayStand tracks side actors.Terminal e = MaySend false side.sender e × (side.asked ≡ false)
MayStand tracks side actors.Painter e = Unit {0}

abbrev pub EndsAt : List ℕ → Watch → Event → Type 0
EndsAt stream w events.Paint = EndsIn (length stream) w.from w.ends
EndsAt stream w _ = Unit {0}

-- a Paint is answered by the view
abbrev pub Pictures : Event → Reply → State → Type 0
Pictures events.Paint answer s = told answer ≡ replies.View (view_now s) [] false
Pictures _ answer s = Unit {0}

-- the event is ready, and the console that enters it answers so; of a Paint's answer no more is said than what is told of it
pub record IsAnswered (s after' : State) (a : Actor) (e : Event) (answer : Reply) : Type 0 where
  pub ready : is_ready s a e ≡ true
  pub state : after' ≡ (step s a e).after
  pub client : is_clients e ≡ true → answer ≡ (step s a e).reply
  pub reply : told answer ≡ (step s a e).reply

-- ---- what it makes of the clients and of the terminal's side

abbrev pub entered_by : List Client → Actor → Event → Reply → (ℕ → Bool) → List Client
entered_by tracks (actors.Client p) e answer pending = set tracks (p - 1) (moved_on (client_at tracks p) (turn e answer (pending p)))
entered_by tracks actors.Terminal e answer pending = tracks
entered_by tracks actors.Painter e answer pending = tracks

abbrev pub side_by : Side → Actor → Event → Side
side_by side (actors.Client p) e = record side { asked = asks_by side.asked e }
side_by side actors.Terminal e = record { sender = sent_one side.sender e; asked = asks_by side.asked e }
side_by side actors.Painter e = record side { asked = asks_by side.asked e }

-- ---- what is found

abbrev pub KeepAll : List What → Given → List Frame → List Entry → Entry → Type 0
KeepAll [] g frames h x = Unit {0}
KeepAll (w ∷ ws) g frames h x = Keeps w g frames h x × KeepAll ws g frames h x

-- w is the first of these that the entry does not keep
abbrev pub FailsToKeep : List What → What → Given → List Frame → List Entry → Entry → Type 0
FailsToKeep [] w g frames h x = ⊥
FailsToKeep (v ∷ vs) w g frames h x = ((v ≡ w) × ¬ (Keeps v g frames h x)) ⊎ (Keeps v g frames h x × FailsToKeep vs w g frames h x)

-- the entry keeps all, and one knows as much behind it; or the first part that it does not keep
abbrev pub Judges : Option What → Given → List Frame → List Entry → Entry → (List Entry → Type 0) → Type 0
Judges None g frames h x Knows = KeepAll parts g frames h x × Knows (h ++ x ∷ [])
Judges (Some w) g frames h x Knows = FailsToKeep parts w g frames h x

-- what is read is what is given
pub record Reads (g : Given) (stream : List ℕ) (entries : List Entry) (answers : List Reply) (ends : List ℕ) : Type 0 where
  pub stream' : g.stream ≡ stream
  pub entries' : g.entries ≡ entries
  pub replies : g.replies ≡ answers
  pub ends' : g.ends ≡ ends
