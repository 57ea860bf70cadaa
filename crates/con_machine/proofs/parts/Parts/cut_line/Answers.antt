use Rattle.std.proofs.Common.{List, ◌∙◌, ap, sym}
use Rattle.con_machine.specs.Held.{Held}
use Rattle.con_machine.specs.Words.Reads.{part_left}
use Rattle.con_machine.specs.State.{State}
use Rattle.con_machine.specs.Words.State.{has_rest}
use Rattle.con_machine.specs.declared.reads.rest.Rest.{Rest}
use Rattle.con_machine.proofs.Resting.{no_rest}
use Rattle.con_machine.proofs.parts.Parts.cut_line.Goals as goal

pub returns-then-not-has-clause-state : goal.returns-then-not-has-clause-state
returns-then-not-has-clause-state c =
    let s : State = c.args.self.now.state in
    ap (λ (rs : List Rest). record s { rests = rs })
    (no_rest (part_left c.args.note c.args.units) s.rests c.args.note.process c.args.note.handle
    (ap (λ (v : Held). has_rest v.state.rests c.args.note.process c.args.note.handle) (sym c.self.view_is) ∙ (sym c.has.ensures ∙ c.if-not-has.true)))
