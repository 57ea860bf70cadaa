-- The list has each name of the table.
use Rattle.std.proofs.Common.{refl}
use Rattle.con_events.proofs.NameLemmas.{named}
use Rattle.con_events.proofs.names.call_named.Goals as goal

pub returns : goal.returns
returns c = named c.args.wanted.now c.look_up.result _ c.look_up.ensures refl refl
