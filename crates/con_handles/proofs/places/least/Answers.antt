-- The first number that is found, or none.
use Rattle.std.proofs.Common.{arith, sym}
use Rattle.con_handles.specs.Places.{listed}
use Rattle.con_handles.proofs.Listed.{none_at_first, none_more, none_owned, first_found, least_used}
use Rattle.con_handles.proofs.places.least.Goals as goal

pub loop-number-init : goal.loop-number-init
loop-number-init c = record { none = none_at_first (listed 0 c.args.places.now) c.args.process; low = omega arith }

pub loop-number-preserved : goal.loop-number-preserved
loop-number-preserved c = record { none = none_more (listed 0 c.args.places.now) c.args.process c.loop-number.number c.loop-number.invariant.none (sym c.in_default.ensures.is); low = omega arith }

pub returns-clause-is : goal.returns-clause-is
returns-clause-is c = sym (none_owned c.args.places.now 0 c.args.process c.loop-number.number (omega arith) c.loop-number.invariant.none)

pub returns-in-Some-clause-is : goal.returns-in-Some-clause-is
returns-in-Some-clause-is c = first_found c.args.places.now c.args.process c.loop-number.number c.in-Some.handle c.loop-number.invariant.low c.loop-number-test.true c.loop-number.invariant.none c.in-Some.ensures.is

pub returns-in-Some-clause-low : goal.returns-in-Some-clause-low
returns-in-Some-clause-low c = rw c.in-Some.ensures.number c.loop-number.invariant.low

pub returns-in-Some-clause-high : goal.returns-in-Some-clause-high
returns-in-Some-clause-high c = rw c.in-Some.ensures.number c.loop-number-test.true

pub returns-in-Some-clause-process : goal.returns-in-Some-clause-process
returns-in-Some-clause-process c = c.in-Some.ensures.process

pub returns-in-Some-clause-least : goal.returns-in-Some-clause-least
returns-in-Some-clause-least c = rw c.in-Some.ensures.number (least_used c.args.places.now c.args.process c.loop-number.number c.loop-number.invariant.none)
