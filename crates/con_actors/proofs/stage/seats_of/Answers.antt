use Rattle.std.proofs.Common.{◌∙◌, sym, length, arith}
use Rattle.con_actors.specs.Beginning.{fresh_pushed, pushed, pushed_length, rest_behind, told_at}
use Rattle.con_actors.proofs.stage.seats_of.Goals as goal

pub loop-rack-preserved : goal.loop-rack-preserved
loop-rack-preserved g c =
    let step = c.in-Some.ensures.steps in
    let e = pushed _ _ _ _ c.push_reserved.ensures.items c.reserve.ensures.items in
    let n = pushed_length _ _ _ e in
    let r = sym step.0 ∙ c.loop-rack.invariant.rest in
    record {
      fresh = fresh_pushed _ _ _ _ _ _ _ _ e c.loop-rack.invariant.fresh c.in_ok-seat.ensures.worker
          (λ b p q. c.in_ok-seat.ensures.hands b p (q ∙ told_at _ (length c.loop-rack.seats.items) c.args.racks.items c.in-Some.rack _ r));
      count = omega (arith, step.1, n, c.loop-rack.invariant.count);
      rest = rest_behind _ _ _ _ _ r n;
    }
