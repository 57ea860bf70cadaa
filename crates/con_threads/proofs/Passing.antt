-- An event of the terminal's side, by what was told of it.
use Rattle.std.proofs.Common.{◌≡◌, ℕ, true, false, List, Option, Some, None}
use Rattle.std.proofs.Common.{subst}
use Rattle.std.specs.Prelude.{is_some, IfSome}
use Rattle.std.specs.Option.{IfNone}
use Rattle.con_events.specs.declared.actor.Actor.{Actor}
use Rattle.con_events.specs.declared.actor.Actor.TheVariants as actors
use Rattle.con_events.specs.declared.entry.Entry.{Entry}
use Rattle.con_events.specs.declared.event.Event.{Event}
use Rattle.con_machine.specs.State.{State}
use Rattle.con_machine.specs.Step.{is_ready}
use Rattle.con_threads.specs.Scribe.{HasEntered, SeesMore}
use Rattle.con_threads.specs.Sides.{IsSending}
use Rattle.con_threads.specs.declared.ledger.Told.{Told}

told_sent : (start : State) (a : Actor) (event : Event) (told : Told) (h g : List Entry) → HasEntered start a event told h g → a ≡ actors.Terminal
    → IsSending start event h g
told_sent start a event told h g k e =
    let P : Actor → Type 0 = λ z. HasEntered start z event told h g in
    let m = subst P e k in
    record { between = m.between; others = m.others; legal = m.legal; entries' = m.entries' }

pub entered_sent : (start : State) (a : Actor) (event : Event) (answer : Option Told) (h g : List Entry)
    → IfSome answer (λ told. HasEntered start a event told h g) → a ≡ actors.Terminal → is_some answer ≡ true → IsSending start event h g
entered_sent start a event None h g k e i = absurd (let both : false ≡ true = i in cc)
entered_sent start a event (Some told) h g k e i = told_sent start a event told h g k e

pub entered_blocked : (start s : State) (a b : Actor) (event : Event) (answer : Option Told) (h g : List Entry)
    → IfNone answer (SeesMore start a h g × (is_ready s b event ≡ false)) → a ≡ actors.Terminal → b ≡ actors.Terminal → is_some answer ≡ false
    → SeesMore start actors.Terminal h g × (is_ready s actors.Terminal event ≡ false)
entered_blocked start s a b event None h g k d e i =
    let P : Actor → Type 0 = λ z. SeesMore start z h g in
    let Q : Actor → Type 0 = λ z. is_ready s z event ≡ false in
    (subst P d k.0, subst Q e k.1)
entered_blocked start s a b event (Some told) h g k d e i = absurd (let both : true ≡ false = i in cc)
