-- The terminal's side of a run that is audited.
use Rattle.std.specs.Prelude.{Bool}
use Rattle.con_machine.specs.Follows.{Sender}

-- what it has still to send and whether it has ended; whether an Ask stands without a Paint behind it
pub record Side : Type 0 where
  pub sender : Sender
  pub asked : Bool
