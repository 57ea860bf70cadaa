use Rattle.con_machine.specs.Held.{state_of}
use Rattle.con_machine.proofs.Aliased.{added_state}
use Rattle.con_machine.proofs.parts.Parts.add_alias.Goals as goal

pub returns-clause-state : goal.returns-clause-state
returns-clause-state c = rw (← c.self.view_is) (added_state (state_of c.self.inside) c.args.program.now c.args.source.now c.args.target.now c.add.new.self.programs c.if-self.false c.add.ensures.aliases)
