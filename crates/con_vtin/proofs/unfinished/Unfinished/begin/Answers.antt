use Rattle.std.proofs.Common.{lit≤, rules}
use Rattle.con_vtin.proofs.Lists.{first_set}
use Rattle.con_vtin.proofs.unfinished.Unfinished.begin.Goals as goal

pub invariant_of-self : goal.invariant_of-self
invariant_of-self c = (lit≤ tt, first_set c.self.inside.bytes 0x1B (search rules))

pub returns : goal.returns
returns c = first_set c.self.inside.bytes 0x1B (search rules)
