-- Fewer histories, in the same memory.
use Rattle.std.proofs.Common.{◌++◌, drop, length, arith}
use Rattle.std.proofs.lemmas.List.{length-take}
use Rattle.con_history.proofs.histories.Histories.configure.Goals as goal

pub invariant_of-self : goal.invariant_of-self
invariant_of-self c = record {
  number = omega (arith, c.drop_oldest.ensures.len, length-take c.drop_oldest.new.used.len (c.move_all.new.used ++ drop (length c.move_all.new.used) c.drop_oldest.new.used.items));
  few = omega (arith, c.if-refused.ensures.allowed);
  lines = omega (arith, c.if-refused.ensures.allowed);
  room = omega (arith, c.drop_oldest.ensures.room, c.self.invariant.room);
}
