-- Words of the laws on what is shown at the end, and on who has left.
use Rattle.std.specs.Prelude.{◌≡◌, Bool, List}
use Rattle.std.specs.List.{list_any}
use Rattle.con_events.specs.declared.entry.Entry.{Entry}
use Rattle.con_machine.specs.Client.{Client, Gone}
use Rattle.con_laws.specs.Whole.{is_pictured}

abbrev pub are_pictured : List Entry → Bool
are_pictured h = list_any (λ x. is_pictured x.event) h

-- the last entry of a client is an Exit; where its entries follow its script, this is one of its steps, or stands behind
-- all of them, or was called for by a control event
abbrev pub HasLeft : Client → Type 0
HasLeft c = c.stance ≡ Gone
