use Rattle.std.proofs.Common.{arith, ap, ◌∙◌, List, Option}
use Rattle.con_handles.specs.Places.{listed}
use Rattle.con_handles.specs.declared.handle.Held.{Held}
use Rattle.con_handles.proofs.Listed.{listed-none}
use Rattle.con_handles.proofs.places.fill.Goals as goal

pub loop-places-preserved : goal.loop-places-preserved
loop-places-preserved c = record {
  same = ap (λ (ps : List (Option Held)). listed 0 ps) c.push_reserved.ensures.items ∙ listed-none c.loop-places.places.items 0 ∙ c.loop-places.invariant.same;
  room = omega arith;
  less = omega arith;
  most = omega arith;
}

pub returns-clause-most : goal.returns-clause-most
returns-clause-most c = λ few. c.loop-places.invariant.most
