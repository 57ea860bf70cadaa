use Rattle.std.proofs.Common.{◌≡◌, Ok, true, sym, ◌∙◌, rules}
use Rattle.con_machine.proofs.Live.{on_ok}
use Rattle.con_machine.specs.Held.{state_of}
use Rattle.con_machine.specs.Outcome.{are_rights}
use Rattle.con_handles.specs.Handles.{new_number}
use Rattle.con_machine.proofs.Opening.{created_counts, created_state, opened_is}
use Rattle.con_machine.proofs.Painted.{created_painted}
use Rattle.con_machine.proofs.parts.Parts.create_buffer.Goals as goal

pub invariant_of-self-in-Ok-create : goal.invariant_of-self-in-Ok-create
invariant_of-self-in-Ok-create c = record {
  buffers = c.create.ensures.kept;
  counted = created_counts c.self.inside.screens c.create.new.self c.self.inside.handles.open_ones c.open.new.self.open_ones c.in-Ok-create.id c.self.invariant.counted (on_ok c.open.result c.in-Ok.number _ (c.open.ensures.number ∙ sym c.next.ensures.number ∙ c.in-Ok.is) c.open.ensures.counted) c.in-Ok-create.ensures.made.0 c.in-Ok-create.ensures.made.1;
  handles = c.open.ensures.table;
  seen_was = created_painted c.self.inside.screens c.create.new.self c.in-Ok-create.id.0 c.self.inside.seen c.self.inside.painted c.in-Ok-create.ensures.made.0 c.in-Ok-create.ensures.made.1 c.self.invariant.seen_was;
}

pub returns-in-Ok-create-clause-state : goal.returns-in-Ok-create-clause-state
returns-in-Ok-create-clause-state c =
    let number : new_number c.self.inside.handles.open_ones c.args.p ≡ Ok c.in-Ok.number = sym c.next.ensures.number ∙ c.in-Ok.is in
    let right : are_rights c.args.rights ≡ true = search rules in
    let ones = opened_is c.self.inside.handles c.open.new.self c.args.p c.in-Ok.number _ c.args.rights c.open.result (c.open.ensures.number ∙ number) c.open.ensures.number c.open.ensures.state in
    rw (← c.self.view_is) (created_state (state_of c.self.inside) c.args.p c.in-Ok.number c.args.rights c.in-Ok-create.id c.open.new.self.open_ones c.create.new.self c.if-self.false right number c.in-Ok-create.ensures.made.0 ones c.in-Ok-create.ensures.made.1)
