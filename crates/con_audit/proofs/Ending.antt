-- At the end, once the terminal's side has ended, nothing is asked for; so whether a Paint is due tells whether all was shown.
use Rattle.std.proofs.Common.{◌≡◌, Bool, true, false, ◌&&◌, List, [], ◌∷◌, length, refl, sym, ◌∙◌}
use Rattle.std.specs.Prelude.{if◌then◌else◌}
use Rattle.con_units.specs.declared.view.Frame.{Frame}
use Rattle.con_events.specs.declared.actor.Actor.{Actor}
use Rattle.con_events.specs.declared.actor.Actor.TheVariants as actors
use Rattle.con_events.specs.declared.entry.Entry.{Entry}
use Rattle.con_events.specs.declared.event.Event.{Event}
use Rattle.con_events.specs.declared.event.Event.TheVariants as events
use Rattle.con_machine.specs.Along.{Along}
use Rattle.con_machine.specs.Words.Along.{after}
use Rattle.con_laws.specs.DueLaws.{ask_is_terminals, asked_after, nothing_due}
use Rattle.con_machine.specs.Follows.{MayAct, asks_by, session_start}
use Rattle.con_machine.specs.Words.Follows.{asks}
use Rattle.con_machine.specs.History.{is_legal}
use Rattle.con_laws.specs.ShowingLaws.{painted_shows}
use Rattle.con_machine.specs.State.{State}
use Rattle.con_machine.specs.Step.{is_ready}
use Rattle.con_machine.specs.Turns.{moved, sent, has_ended, is_last_sent, is_terminal}
use Rattle.con_laws.specs.Whole.{HaveAllLeft, ShowsAll}
use Rattle.con_audit.specs.Audit.{Given, Holds, Passes, last_end}
use Rattle.con_audit.specs.declared.verdict.What.TheVariants as what
use Rattle.con_audit.specs.OneMore.{asks_after, state_after}

both : (a b : Bool) → (a && b) ≡ true → (a ≡ true) × (b ≡ true)
both true b e = (refl, e)
both false b e = absurd (cc)

no : {A : Type 0} → false ≡ true → A
no e = absurd (cc)

-- an event that another one than the terminal enters asks for nothing
quiet : (s : State) (a : Actor) (e : Event) (out : Bool) → is_terminal a ≡ false → is_ready s a e ≡ true → out ≡ false → asks_by out e ≡ false
quiet s a (events.Call c) out n r o = o
quiet s a (events.Begin w) out n r o = o
quiet s a events.Collect out n r o = o
quiet s a events.TakeCtrl out n r o = o
quiet s a (events.Exit k) out n r o = o
quiet s a (events.Feed b) out n r o = o
quiet s a events.Quiet out n r o = o
quiet s a (events.Resize z) out n r o = o
quiet s a events.Ask out n r o = no (sym n ∙ ask_is_terminals s a r)
quiet s a events.Hangup out n r o = o
quiet s a events.Drained out n r o = o
quiet s a events.Paint out n r o = refl

-- nor does the last one of the terminal
last_quiet : (e : Event) (out : Bool) → out ≡ false → is_last_sent e ≡ true → asks_by out e ≡ false
last_quiet (events.Call c) out o l = no l
last_quiet (events.Begin w) out o l = no l
last_quiet events.Collect out o l = no l
last_quiet events.TakeCtrl out o l = no l
last_quiet (events.Exit k) out o l = no l
last_quiet (events.Feed b) out o l = no l
last_quiet events.Quiet out o l = no l
last_quiet (events.Resize z) out o l = no l
last_quiet events.Ask out o l = no l
last_quiet events.Hangup out o l = o
last_quiet events.Drained out o l = o
last_quiet events.Paint out o l = no l

acted : (b : Bool) → MayAct false b actors.Terminal → b ≡ false
acted true m = no m
acted false m = refl

one_asked : (s : State) (a : Actor) (e : Event) (xs : List Entry) (out ended : Bool) → is_ready s a e ≡ true → MayAct false out a → (ended ≡ true → out ≡ false)
    → has_ended ended (if is_terminal a then e ∷ sent xs else sent xs) ≡ true
    → ((next : Bool) → (next ≡ true → asks_by out e ≡ false) → has_ended next (sent xs) ≡ true → after asks (asks_by out e) xs ≡ false) → after asks (asks_by out e) xs ≡ false
one_asked s (actors.Client p) e xs out ended r m o h more = more ended (λ y. quiet s (actors.Client p) e out refl r (o y)) h
one_asked s actors.Terminal e xs out ended r m o h more = more (is_last_sent e) (λ y. last_quiet e out (acted out m) y) h
one_asked s actors.Painter e xs out ended r m o h more = more ended (λ y. quiet s actors.Painter e out refl r (o y)) h

none_asked : (s : State) (h : List Entry) (out ended : Bool) → is_legal s h ≡ true → Along (λ o x. MayAct false o x.actor) asks out h → (ended ≡ true → out ≡ false)
    → has_ended ended (sent h) ≡ true → after asks out h ≡ false
none_asked s [] out ended l a o h = o h
none_asked s (x ∷ xs) out ended l a o h =
    let t = both (is_ready s x.actor x.event) (is_legal (moved s x) xs) l in
    one_asked s x.actor x.event xs out ended t.0 a.0 o h (λ next k j. none_asked (moved s x) xs (asks_by out x.event) next t.1 a.1 k j)

-- behind entries that pass
nothing_asked : (g : Given) (frames : List Frame) → Passes g frames g.entries → has_ended false (sent g.entries) ≡ true → asks_after g.entries ≡ false
nothing_asked g frames (legal, (replies, (follows, rest))) h = none_asked (session_start g.session g.racks) g.entries false false legal follows.answered (λ e. refl) h

-- ---- what is tried at the end

pub record IsDone (g : Given) : Type 0 where
  pub ends : last_end 0 g.ends ≡ length g.stream
  pub left : HaveAllLeft (session_start g.session g.racks) g.entries g.session g.racks
  pub ended : has_ended false (sent g.entries) ≡ true
  pub quiet : is_ready (state_after g g.entries) actors.Painter events.Paint ≡ false

pub done_is_whole : (g : Given) (frames : List Frame) → IsDone g → Holds what.Whole g frames g.entries
done_is_whole g frames d = (d.ends, record { clients = d.left; ended = d.ended; shown = painted_shows g.session g.racks g.entries d.quiet })

pub whole_is_done : (g : Given) (frames : List Frame) → Passes g frames g.entries → Holds what.Whole g frames g.entries → IsDone g
whole_is_done g frames p (ends, w) = record {
  ends = ends;
  left = w.clients;
  ended = w.ended;
  quiet = nothing_due (session_start g.session g.racks) g.entries w.shown (asked_after (session_start g.session g.racks) g.entries ∙ nothing_asked g frames p w.ended);
}
