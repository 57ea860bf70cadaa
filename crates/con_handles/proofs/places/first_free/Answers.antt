-- The search ends, or goes on.
use Rattle.std.proofs.Common.{arith, sym, ◌∙◌}
use Rattle.con_handles.specs.Places.{listed}
use Rattle.con_handles.proofs.Numbers.{found, goes_on, at_end}
use Rattle.con_handles.proofs.places.first_free.Goals as goal

pub loop-number-preserved : goal.loop-number-preserved
loop-number-preserved c = record { same = goes_on _ _ _ _ c.loop-number-test.true (sym c.used.ensures ∙ c.if-not-used.false) c.loop-number.invariant.same; low = omega arith; high = omega arith }

pub returns-clause-is : goal.returns-clause-is
returns-clause-is c = at_end (listed 0 c.args.places.now) c.args.process c.loop-number.number _ (omega arith) c.loop-number.invariant.high c.loop-number.invariant.same

pub returns-then-not-used-clause-is : goal.returns-then-not-used-clause-is
returns-then-not-used-clause-is c = found (listed 0 c.args.places.now) c.args.process c.loop-number.number _ c.loop-number-test.true (sym c.used.ensures ∙ c.if-not-used.true) c.loop-number.invariant.same
