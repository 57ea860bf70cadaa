use Rattle.std.proofs.Common.{rules, ◌++◌, [], take, refl, arith}
use Rattle.con_outside.specs.Laws.{then_left-none, then_left-more}
use Rattle.con_text.proofs.Pieces.{length-more}
use Rattle.con_text.proofs.reading.read_link.Goals as goal

pub loop-total-init : goal.loop-total-init
loop-total-init g c = record {
  few = omega arith;
  taken = ([], then_left-none _, g.met.L.Listener.nothing_heard _, refl);
  never_falls = omega arith;
}

pub loop-total-preserved : goal.loop-total-preserved
loop-total-preserved g c =
    let before = c.loop-total.invariant.taken in
    let piece = take c.in-Ok.n c.read.new.buf in
    record {
      few = omega (arith, c.in-Ok.ensures.bound);
      taken = (
        before.0 ++ piece,
        then_left-more before.0 piece _ _ _ before.1 c.in-Ok.ensures.taken,
        g.met.L.Listener.heard_in_turn before.0 piece _ _ _ before.2 c.in-Ok-hear.ensures,
        length-more before.0 c.read.new.buf c.in-Ok.n c.loop-total.total before.3 c.in-Ok.ensures.bound,
      );
      never_falls = omega (arith, c.loop-total.invariant.never_falls, c.read.ensures.never_falls);
    }

pub returns-in-Err-hear-clause-taken : goal.returns-in-Err-hear-clause-taken
returns-in-Err-hear-clause-taken g c =
    let before = c.loop-total.invariant.taken in
    let piece = take c.in-Ok.n c.read.new.buf in
    let long = length-more before.0 c.read.new.buf c.in-Ok.n c.loop-total.total before.3 c.in-Ok.ensures.bound in
    let some = c.loop-total-test.true in
    (before.0 ++ piece, then_left-more before.0 piece _ _ _ before.1 c.in-Ok.ensures.taken, omega (arith, long, some, c.in-Ok.ensures.bound), λ not. absurd (not refl))

pub returns-clause-taken : goal.returns-clause-taken
returns-clause-taken g c = search rules
