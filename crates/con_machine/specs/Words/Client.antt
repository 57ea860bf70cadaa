-- The words of the code and of laws about Client, which a reader need not believe.
use Rattle.con_machine.specs.Turns.{Turn}
use Rattle.con_machine.specs.Client.{Client, MayBy}

-- the client may enter this event
abbrev pub May : Client → Turn → Type 0
May c t = MayBy c.stance c t.event
