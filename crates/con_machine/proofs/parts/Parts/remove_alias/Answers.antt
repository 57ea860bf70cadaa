use Rattle.std.proofs.Common.{ap}
use Rattle.con_alias.specs.Room.{AliasTable}
use Rattle.con_machine.specs.Held.{state_of}
use Rattle.con_machine.proofs.Aliased.{removed_state}
use Rattle.con_machine.proofs.parts.Parts.remove_alias.Goals as goal

pub returns-clause-state : goal.returns-clause-state
returns-clause-state c = rw (← c.self.view_is) (removed_state (state_of c.self.inside) c.args.program.now c.args.source.now c.remove.new.self.programs c.if-self.false (ap (λ (t : AliasTable). t.programs) c.remove.ensures.aliases))
