-- A desk's event, as a door tells it.
use Rattle.std.proofs.Common.{◌≡◌, true, Result, Ok, Err}
use Rattle.std.specs.Prelude.{IfOk}
use Rattle.con_units.specs.declared.code.OutOfMemory.{OutOfMemory}
use Rattle.con_events.specs.declared.actor.Actor.{Actor}
use Rattle.con_events.specs.declared.event.Event.{Event}
use Rattle.con_machine.specs.History.{run}
use Rattle.con_machine.specs.State.{State}
use Rattle.con_machine.specs.Step.{step, is_ready}
use Rattle.con_actors.specs.Words.Desk.{Enters, brief_of}
use Rattle.con_actors.specs.DeskDoor.{IsNothing, Since}
use Rattle.con_actors.specs.DeskSince.{desk_entered}
use Rattle.con_actors.specs.Door.{Entered}
use Rattle.con_actors.specs.declared.desk.Brief.{Brief}
use Rattle.con_actors.specs.declared.desk.Desk.{Desk}

pub put_entered : (old new : Desk) (a : Actor) (e : Event) (r : Result Brief OutOfMemory) → is_ready old.console.state a e ≡ true
    → IfOk r (λ brief. Enters old.console.state new.console.state old.entries.items new.entries.items old.replies.items new.replies.items a e)
    → IfOk r (λ brief. brief ≡ brief_of (step old.console.state a e).reply)
    → IfOk r (λ brief. (k : Desk) (s : State) → Since k.console.state old.console.state k.entries.items old.entries.items k.replies.items old.replies.items
    → k.console.state ≡ run s k.entries.items
    → Entered IsNothing s a e brief old.entries.items new.entries.items)
put_entered old new a e (Ok brief) ready n br = λ k s stands begins. desk_entered k.console.state old.console.state new.console.state s k.entries.items
    old.entries.items new.entries.items k.replies.items old.replies.items new.replies.items a e brief ready n br stands begins
put_entered old new a e (Err x) ready n br = tt
