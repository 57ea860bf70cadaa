-- A client, as contracts see it.
use Rattle.con_machine.specs.Client as client
use Rattle.con_machine.specs.Client.{Client}
use Rattle.std.specs.Prelude.{Bool}
use Rattle.con_events.specs.declared.event.Event.{Event}
use Rattle.con_events.specs.declared.reply.Reply.{Reply}
use Rattle.con_machine.specs.Turns.{Turn}
use Rattle.con_audit.specs.Links.{handlers_of}
use Rattle.con_audit.specs.declared.client.Stance.{Stance}
use Rattle.con_audit.specs.declared.client.Stance.TheVariants as stances
use Rattle.con_audit.specs.declared.client.Track.TheInside.{Inside}

abbrev pub stance_of : Stance → client.Stance
stance_of stances.GoesOn = client.GoesOn
stance_of stances.MayLeave = client.MayLeave
stance_of stances.MustLeave = client.MustLeave
stance_of stances.Gone = client.Gone

abbrev pub client_of : Inside → Client
client_of t = record {
  left = t.left.now;
  kinds = t.kinds.now;
  chain = handlers_of t.chain.items;
  doubtful = t.doubtful;
  reading = t.reading;
  pending = t.pending;
  stance = stance_of t.stance;
}

abbrev pub turn : Event → Reply → Bool → Turn
turn event reply pending = record { event = event; reply = reply; pending = pending }
