-- How a client stands behind a history.
use Rattle.std.specs.Prelude.{◌≡◌, ℕ, Bool, true, false, List}
use Rattle.con_events.specs.declared.entry.Entry.{Entry}
use Rattle.con_procs.specs.Procs.{is_attached}
use Rattle.con_readers.specs.Reads.{is_open}
use Rattle.con_machine.specs.Client.{Stance, GoesOn, MayLeave, MustLeave, Gone, FollowsScript}
use Rattle.con_machine.specs.Follows.{steps_of, kinds_of}
use Rattle.con_machine.specs.History.{run}
use Rattle.con_laws.specs.Presence.{IsSingle}
use Rattle.con_laws.specs.Rounds.{Begun, client_at}
use Rattle.con_machine.specs.Turns.{turns, is_pending}

abbrev pub is_here : Stance → Bool
is_here GoesOn = true
is_here MayLeave = true
is_here MustLeave = true
is_here Gone = false

-- client p follows its script, and the console knows it as it knows itself
pub record ClientStands (b : Begun) (h : List Entry) (p : ℕ) : Type 0 where
  pub follows : FollowsScript (steps_of b.session p) (kinds_of b.racks p) (turns b.state p h)
  pub here : is_attached (run b.state h).procs p ≡ is_here (client_at b h p).stance
  pub reading : is_attached (run b.state h).procs p ≡ true → is_open (run b.state h).reads p ≡ (client_at b h p).reading
  pub single : IsSingle (run b.state h) p
  pub pending : (client_at b h p).pending ≡ true → is_pending (run b.state h) p ≡ true
