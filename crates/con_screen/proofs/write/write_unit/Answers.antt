use Rattle.con_screen.proofs.WriteLemmas.{sequence_done, sequence_none, alone_done}
use Rattle.con_screen.proofs.write.write_unit.Goals as goal

pub returns-in-Nothing-clause-done : goal.returns-in-Nothing-clause-done
returns-in-Nothing-clause-done c =
    let items = rw c.in-Nothing.is at c.advance-found.ensures.spoken in
    sequence_none _ c.args.answers.now _ c.args.unit _ _ c.mode-mode.ensures c.if-has_sequences.ensures items c.advance-found.ensures.rest c.spend.ensures

pub returns-in_default-clause-done : goal.returns-in_default-clause-done
returns-in_default-clause-done c =
    let effect = rw c.sequence.ensures at c.hear.ensures.effect in
    let told = rw (c.sequence.ensures, c.title.ensures.title) at c.hear.ensures.told in
    let switch = rw c.sequence.ensures at c.hear.ensures.switch in
    sequence_done _ c.args.answers.now _ c.args.unit _ _ c.advance-found.new.self.title _ _ _ c.mode-mode.ensures c.if-has_sequences.ensures c.advance-found.ensures.spoken c.advance-found.ensures.rest effect told switch

pub returns-else-has_sequences-clause-done : goal.returns-else-has_sequences-clause-done
returns-else-has_sequences-clause-done c = alone_done _ c.args.answers.now _ c.args.unit _ _ _ _ c.mode-mode.ensures c.if-has_sequences.ensures (c.found_alone-found.ensures _) c.hear-else-has_sequences.ensures.effect c.hear-else-has_sequences.ensures.told c.hear-else-has_sequences.ensures.switch
